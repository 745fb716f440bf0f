use Rattle.gix_hash.proofs.Std.{◌≤◌, take}
use Rattle.store_questions.specs.WholeLines.{AreWhole}
use Rattle.store_questions.proofs.answering.first_lines.Given as goal

abbrev pub invariant-loop-at : goal.invariant-loop-at
invariant-loop-at l = record { bound : l.end ≤ l.at; whole : AreWhole (take l.end l.lines) }
