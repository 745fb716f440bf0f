use Rattle.gix_hash.proofs.Std.{◌≡◌, ◌++◌, ℕ, List, false}
use Rattle.streams.specs.Devices.{plain_failed, plain_inner}
use Rattle.store_questions.specs.Answers.{HasAnsweredParts}
use Rattle.store_questions.specs.WholeLines.{AreWhole}
use Rattle.store_questions.proofs.answering.answer_lines.Given as goal

abbrev pub invariant-loop : goal.invariant-loop
invariant-loop g l = record {
  same : l.asked.query ≡ l.fn.asked.query;
  output : plain_failed l.out ≡ false;
  whole : AreWhole l.rest;
  before : List ℕ;
  lines : l.lines ≡ before ++ l.rest;
  n : ℕ;
  parts : HasAnsweredParts g.R.Directories.answers l.fn.asked.query l.wanted n before l.status (g.W.Write.contents (plain_inner l.fn.out)) (g.W.Write.contents (plain_inner l.out));
}
