use Rattle.gix_hash.proofs.Std.{◌≡◌, ℕ, Consumes, List, false, option_map}
use Rattle.std.specs.Io.Buffered.{writer_contents}
use Rattle.streams.specs.Devices.{plain_failed, plain_inner}
use Rattle.store_questions.specs.Answers.{HasAnsweredParts}
use Rattle.store_questions.specs.LineReaders.{to_come}
use Rattle.store_questions.specs.WholeLines.{made_whole}
use Rattle.store_questions.proofs.answering.answer_input.Given as goal

abbrev pub invariant-loop : goal.invariant-loop
invariant-loop g l = record {
  same : l.asked.query ≡ l.fn.asked.query;
  output : plain_failed l.out ≡ false;
  text : List ℕ;
  read : Consumes (option_map made_whole (g.I.Read.remaining l.fn.input)) (to_come g.I.Read.remaining l.reader) text;
  n : ℕ;
  parts : HasAnsweredParts g.R.Directories.answers l.fn.asked.query l.wanted n text l.status
      (writer_contents g.W.Write.contents (plain_inner l.fn.out)) (writer_contents g.W.Write.contents (plain_inner l.out));
}
