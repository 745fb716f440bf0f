use Rattle.gix_hash.proofs.Std.{subst, sym}
use Rattle.repositories.specs.Alternates.{paths_named}
use Rattle.repositories.proofs.Entries.{Names, names_all, names_entry}
use Rattle.repositories.proofs.alternates.alternate_paths.Goals as goal

pub loop-left-preserved : goal.loop-left-preserved
loop-left-preserved g c =
    subst (λ paths. Names c.args.separator (paths_named c.args.separator c.args.list.now) paths c.in_ok-path.rest.now) (sym c.in_ok-push_entry.ensures)
    (names_entry _ _ _ _ _ _ c.loop-left-test.ensures c.in_ok-path.ensures.entry c.in_ok-path.ensures.fewer c.loop-left.invariant)

pub returns : goal.returns
returns g c = names_all _ _ _ _ c.loop-left-test.ensures c.loop-left.invariant
