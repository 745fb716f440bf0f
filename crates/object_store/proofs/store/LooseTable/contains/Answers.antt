use Rattle.gix_hash.proofs.Std.{◌≡◌, ◌∙◌, length, ap, refl, subst, sym}
use Rattle.id_lookup.specs.Words.{Index, IsIndex, KindDigits, hex_len_of, id_digits, kind_by_number, matches}
use Rattle.id_lookup.proofs.Beginnings.{test_same}
use Rattle.object_store.proofs.LooseParts.{found_decides}
use Rattle.object_store.proofs.store.LooseTable.contains.Goals as goal

pub returns-then-eq : goal.returns-then-eq
returns-then-eq c =
    let self = c.args.self.now in
    let digits = id_digits c.args.id.now in
    let index : IsIndex self.kind self.ids = subst (λ (x : Index). IsIndex x.kind x.ids) c.self.view_is c.self.invariant.0 in
    let long : length digits ≡ hex_len_of self.kind =
    c.kind.ensures.len ∙ ap hex_len_of (sym c.kind.ensures.value ∙ kind_by_number _ _ (test_same _ _ (sym c.eq.ensures ∙ c.if-eq.true)) ∙ ap (λ (x : Index). x.kind) c.self.view_is) in
    let are = c.beginning_with.ensures.ids ∙ ap (λ (p : KindDigits). matches p.digits self.ids) c.from.ensures in
    found_decides self.kind self.ids index digits c.beginning_with.result.now _ c.is_empty.result are long refl c.is_empty.ensures
