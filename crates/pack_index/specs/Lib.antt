-- Git's pack indexes.
pub mod Format
pub mod Lazy
pub mod Multi
