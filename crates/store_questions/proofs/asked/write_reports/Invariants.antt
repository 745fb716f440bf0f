use Rattle.gix_hash.proofs.Std.{◌≡◌, false}
use Rattle.store_questions.proofs.asked.write_reports.Given as goal

abbrev pub invariant-loop-error : goal.invariant-loop-error
invariant-loop-error g l = g.W.Sink.has_failed l.out ≡ false
