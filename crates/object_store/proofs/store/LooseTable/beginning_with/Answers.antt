use Rattle.gix_hash.proofs.Std.{◌≡◌, ◌∙◌, List, map, ap, sym, subst, arith, All}
use Rattle.id_lookup.specs.Words.{Index, IsIndex, ObjectId, hex_len_of, id_digits, id_kind, matches}
use Rattle.object_store.proofs.store.LooseTable.beginning_with.Goals as goal

pub beginning_with-requires : goal.beginning_with-requires
beginning_with-requires c =
    let kind = c.self.inside.kind in (
      kind,
      subst (λ (ids : List ObjectId). IsIndex kind (map id_digits ids)) (sym c.deref.ensures.value) c.self.invariant.0,
      omega (arith, c.requires, ap (λ (x : Index). hex_len_of x.kind) c.self.view_is),
    )

pub returns-clause-ids : goal.returns-clause-ids
returns-clause-ids c =
    let digits = c.args.prefix.now.digits in
    c.beginning_with.ensures.ids ∙ (λ i. matches digits (map id_digits (c.deref.ensures.value i))) ∙ ap (λ (x : Index). matches digits x.ids) c.self.view_is

pub returns-clause-kinds : goal.returns-clause-kinds
returns-clause-kinds c =
    let given = subst (All (λ (id : ObjectId). id_kind id ≡ c.self.inside.kind)) (sym c.deref.ensures.value) c.self.invariant.2 in
    subst (λ (x : Index). All (λ (id : ObjectId). id_kind id ≡ x.kind) c.beginning_with.result.now) c.self.view_is (c.beginning_with.ensures.kinds c.self.inside.kind given)
