use Rattle.std.proofs.Common.{◌≡◌, map, ap, refl, subst, sym, ◌∙◌, ◌↔◌, ℕ, List, Contains, IfOk, IsOk, Result, Ok, Err, All}
use Rattle.std.proofs.lemmas.List.Elements.{All-contains, Contains-get_or}
use Rattle.gix_hash.specs.Words.{id_digits, id_kind}
use Rattle.gix_hash.specs.declared.ObjectId.{ObjectId}
use Rattle.id_lookup.specs.Words.{Index, IsIndex}
use Rattle.callers.proofs.sorting.sort_into_index.Goals as goal

pub returns-clause-accepted : goal.returns-clause-accepted
returns-clause-accepted c =
    let is_kind = λ (id : ObjectId). id_kind id ≡ c.args.kind in
    let kept = c.sort_unique.new.ids.items in
    let index : IsIndex c.args.kind (map id_digits kept) ↔ All is_kind kept = rw c.deref.ensures.value at c.strictly_sorted.ensures c.sort_unique.ensures.sorted in
    let accepted : IsOk c.try_new.result ↔ IsIndex c.args.kind (map id_digits kept) = rw c.deref-2.ensures.value at c.try_new.ensures.index in (
      λ ok k d low. All-contains is_kind kept _ (index.0 (accepted.0 ok)) ((c.sort_unique.ensures.members _).1 (Contains-get_or c.args.ids.now.items k d low)),
      λ all. accepted.1 (index.1 (c.sort_unique.ensures.kinds c.args.kind all)),
    )

-- what follows for a value if there is one
of_ok : {T E : Type 0} (r : Result T E) (P Q : T → Type 0) → (IsOk r → (x : T) → P x → Q x) → IfOk r P → IfOk r Q
of_ok (Ok x) P Q f p = f refl x p
of_ok (Err e) P Q f p = tt

pub returns-clause-members : goal.returns-clause-members
returns-clause-members c =
    let ids = c.args.ids.now.items in
    of_ok c.try_new.result _ _
    (λ ok (index : Index) is. subst (λ (xs : List (List ℕ)). (digits : List ℕ) → Contains xs digits ↔ Contains (map id_digits ids) digits)
    (sym (ap (λ (index : Index). index.ids) is ∙ ap (map id_digits) c.deref-2.ensures.value)) (c.sort_unique.ensures.index c.args.kind ((returns-clause-accepted c).0 ok)).members)
    c.try_new.ensures.ok
