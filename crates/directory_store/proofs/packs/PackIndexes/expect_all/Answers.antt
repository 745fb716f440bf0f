use Rattle.gix_hash.proofs.Std.{All, IsNone, rules, subst}
use Rattle.directory_store.specs.Stores.{IsListedPack}
use Rattle.directory_store.proofs.packs.PackIndexes.expect_all.Goals as goal

pub returns-in_default : goal.returns-in_default
returns-in_default c =
    let none : IsNone c.first_gone.result = search rules in
    subst (λ listed. All (IsListedPack listed) c.args.earlier.now.paths.items) c.deref-2.ensures.value
    (subst (All (IsListedPack c.deref-2.result.now)) c.deref.ensures.value (c.first_gone.ensures none))
