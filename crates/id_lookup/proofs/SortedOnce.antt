-- Ids of one kind that were sorted, and of which each was kept once, are the index of them.
use Rattle.gix_hash.proofs.Std.{◌≡◌, ◌↔◌, List, length, get_or, map, refl, sym, ap, ◌∙◌, subst, arith, rules, IsTotalOrder, IsEquivalence, comparing, All, Contains, dedup, IsSorted, IsStrictlySortedBy, IsPermutation, eq_by_cmp, get_or-map, length-map, All-contains, All-map, Contains-get_or, Contains-permutation, IsPermutation-sym}
use Rattle.std.proofs.lemmas.List.Kept.{Contains-dedup, Contains-from_dedup, IsStrictlySortedBy-dedup}
use Rattle.gix_hash.proofs.Equalities.{id_eq-same}
use Rattle.gix_hash.specs.Words.{hex_len_of, id_cmp, id_digits, id_eq, id_kind}
use Rattle.gix_hash.specs.declared.Kind.{Kind}
use Rattle.gix_hash.specs.declared.ObjectId.{ObjectId}
use Rattle.id_lookup.proofs.OneKind.{index-of_kind}
use Rattle.id_lookup.specs.Indexes.{IsIndexOf}

-- the order of ids is total, and the ids that are equal are those that it ties
id_cmp_total : IsTotalOrder id_cmp
id_cmp_total = search (comparing, rules)

id_eq_equiv : IsEquivalence id_eq
id_eq_equiv = search (comparing, rules)

id_eq_ties : (x y : ObjectId) → id_eq x y ≡ eq_by_cmp id_cmp x y
id_eq_ties x y = search (comparing, rules)

-- the members of a mapped list are those of the list, mapped
contains_map : {X Y : Type 0} (f : X → Y) (xs : List X) (x : X) → Contains xs x → Contains (map f xs) (f x)
contains_map f xs x c = (c.0, omega (arith, c.1, length-map xs f), get_or-map f xs c.0 x (f x) c.1 ∙ ap f c.2)

contains_from_map : {X Y : Type 0} (f : X → Y) (xs : List X) (y : Y) → Contains (map f xs) y → (x : X) × Contains xs x × (f x ≡ y)
contains_from_map {X} {Y} f xs y =
    let IsOfMember : Y → Type 0 = λ y. (x : X) × Contains xs x × (f x ≡ y) in
    All-contains IsOfMember (map f xs) y (All-map IsOfMember f xs (λ k d inside. (get_or xs k d, Contains-get_or xs k d inside, refl)))

module _ (ids sorted kept : List ObjectId) (moved : IsPermutation ids sorted) (is_sorted : IsSorted id_cmp sorted) (is : kept ≡ dedup id_eq sorted) where
  -- nothing comes and nothing goes
  pub kept_members : (id : ObjectId) → Contains kept id ↔ Contains ids id
  kept_members id = (
    λ c. Contains-permutation sorted ids id (IsPermutation-sym ids sorted moved) (Contains-from_dedup id_eq sorted id (subst (λ (xs : List ObjectId). Contains xs id) is c)),
    λ c. subst (λ (xs : List ObjectId). Contains xs id) (sym is)
        (Contains-dedup id_eq_equiv (λ x y. (id_eq-same x y).0) sorted id (Contains-permutation ids sorted id moved c)),
  )

  pub kept_strict : IsStrictlySortedBy id_cmp kept
  kept_strict = subst (IsStrictlySortedBy id_cmp) (sym is) (IsStrictlySortedBy-dedup id_cmp_total id_eq_ties sorted is_sorted)

-- ids of one kind, and what is kept of them
module _ (kind : Kind) (ids kept : List ObjectId) (of_kind : All (λ id. id_kind id ≡ kind) ids) (members : (id : ObjectId) → Contains kept id ↔ Contains ids id) where
  pub kept_kinds : All (λ id. id_kind id ≡ kind) kept
  kept_kinds k d low = All-contains (λ id. id_kind id ≡ kind) ids (get_or kept k d) of_kind ((members (get_or kept k d)).0 (Contains-get_or kept k d low))

  pub index_of_sorted : IsStrictlySortedBy id_cmp kept → All (λ id. length (id_digits id) ≡ hex_len_of (id_kind id)) kept → IsIndexOf kind (map id_digits ids) (map id_digits kept)
  index_of_sorted strict long = record {
    index = index-of_kind kind kept long strict kept_kinds;
    members = λ digits. (
      λ c.
          let from = contains_from_map id_digits kept digits c in
          subst (Contains (map id_digits ids)) from.2 (contains_map id_digits ids from.0 ((members from.0).0 from.1)),
      λ c.
          let from = contains_from_map id_digits ids digits c in
          subst (Contains (map id_digits kept)) from.2 (contains_map id_digits kept from.0 ((members from.0).1 from.1)),
    );
  }
