pub mod AnswerLemmas
mod FirstTwo
mod LineLemmas
mod KeptLines
mod ShownLemmas
mod AbbreviatedLemmas
mod OnePrefix
pub mod EachLine
mod EscapeLemmas
