use Rattle.gix_hash.proofs.Std.{arith}
use Rattle.store_questions.proofs.LineLemmas.{whole-more}
use Rattle.store_questions.proofs.answering.first_lines.Goals.{then-lines-at-eq10, else-lines-at-eq10}
use Rattle.store_questions.proofs.answering.first_lines.Goals as goal

pub loop-at-preserved : goal.loop-at-preserved
loop-at-preserved c = elim c.if-lines-at-eq10.branch [
  | then-lines-at-eq10 w ↦ grind (arith, whole-more c.args.lines.now c.loop-at.at)
  | else-lines-at-eq10 w ↦ grind arith
]
