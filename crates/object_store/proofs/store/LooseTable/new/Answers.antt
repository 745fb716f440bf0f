use Rattle.gix_hash.proofs.Std.{get_or, subst, All-map}
use Rattle.id_lookup.specs.Words.{AreIdDigits, Kind, id_digits}
use Rattle.object_store.proofs.store.LooseTable.new.Goals as goal

pub invariant_of-result : goal.invariant_of-result
invariant_of-result c =
    let ids = c.sort_unique.new.ids.items in
    let kinds = c.sort_unique.ensures.kinds c.args.kind c.requires in (
      (c.sort_unique.ensures.index c.args.kind c.requires).index,
      All-map (AreIdDigits c.args.kind) id_digits ids
          (λ k d low. subst (λ (kind : Kind). AreIdDigits kind (id_digits (get_or ids k d))) (kinds k d low) (c.sort_unique.ensures.digits k d low)),
      kinds,
    )

pub returns-clause-index : goal.returns-clause-index
returns-clause-index c = c.sort_unique.ensures.index c.args.kind c.requires
