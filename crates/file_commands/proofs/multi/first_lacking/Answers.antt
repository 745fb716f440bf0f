use Rattle.gix_hash.proofs.Std.{All, Contains, ◌∙◌, arith, subst}
use Rattle.std.proofs.lemmas.List.{length-set, take_all}
use Rattle.std.proofs.lemmas.List.Elements.{All-more}
use Rattle.file_commands.proofs.SameIds.{found-at}
use Rattle.file_commands.proofs.multi.first_lacking.Goals as goal

pub loop-id-preserved : goal.loop-id-preserved
loop-id-preserved c = (
  All-more (Contains c.args.own.now) c.args.ids.now c.loop-id.id-index _ c.loop-id-test.true c.loop-id.invariant.0
      (found-at c.args.own.now _ c.in-Ok.at c.in-Ok.ensures.bound c.in-Ok.ensures.ok),
  length-set _ _ _ ∙ c.loop-id.invariant.1,
)

pub returns-clause-none : goal.returns-clause-none
returns-clause-none c = λ _. subst (All (Contains c.args.own.now)) (take_all c.loop-id.id-index c.args.ids.now (omega (arith, c.loop-id-test.false))) c.loop-id.invariant.0
