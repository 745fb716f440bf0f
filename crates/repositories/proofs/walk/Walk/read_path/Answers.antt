use Rattle.gix_hash.proofs.Std.{ap, if◌then◌else◌, on_ok_weaker, sym, ◌∙◌}
use Rattle.repositories.specs.Walks.{skip, walk_of}
use Rattle.repositories.proofs.Visits.{reads}
use Rattle.repositories.proofs.walk.Walk.read_path.Goals as goal

pub returns-then-branch-clause-path : goal.returns-then-branch-clause-path
returns-then-branch-clause-path g c =
    let walk = walk_of c.args.self.now in
    reads _ _ walk walk _ _ _ c.if-is_empty.ensures c.in_ok-push_path.ensures.text c.in_ok-push_path.ensures.pushed (ap (λ b. if b then walk else skip walk) (sym c.if-branch.true))

pub returns-clause-path : goal.returns-clause-path
returns-clause-path g c =
    let walk = walk_of c.args.self.now in
    on_ok_weaker c.skip.result
    (λ is. reads _ _ walk _ _ _ _ c.if-is_empty.ensures c.in_ok-push_path.ensures.text c.in_ok-push_path.ensures.pushed (is ∙ ap (λ b. if b then walk else skip walk) (sym c.if-branch.false)))
    c.skip.ensures.skipped
