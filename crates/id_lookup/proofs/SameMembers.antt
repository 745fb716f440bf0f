-- Indexes: what passes a test of one is one, each member has one position, and two with the same members are equal.
use Rattle.gix_hash.proofs.Std.{◌≡◌, ℕ, ◌+◌, ◌<◌, inl, inr, Bool, List, [], length, get_or, filter, subst, arith, ◌↔◌, Contains, nat_cmp, slice_cmp, Less, cases_order, same_from_decides, nat_list_cmp_total, tied_itself, All-filter, AllWithin-from_all, All-from_all_within}
use Rattle.std.proofs.lemmas.List.Kept.{AllPairs-filter}
use Rattle.std.proofs.lemmas.Map.Lookups.{btree_set_from_contains, exact_bytes}
use Rattle.std.proofs.lemmas.Map.Views.{btree_set_contains_iff}
use Rattle.gix_hash.specs.Words.{hex_len_of}
use Rattle.gix_hash.specs.declared.Kind.{Kind}
use Rattle.id_lookup.specs.Indexes.{IsIndex, IsIndexOf}
use Rattle.id_lookup.proofs.Indexes.{index-pairs, index-strict}
use Rattle.id_lookup.proofs.Filters.{contains_kept, contains_had, kept_passes}

abbrev Below : List ℕ → List ℕ → Type 0
Below a b = slice_cmp nat_cmp a b ≡ Less

-- no id is below itself
never_itself : (a : List ℕ) → Below a a → ⊥
never_itself a h = let tied = tied_itself nat_list_cmp_total a in cc

-- what a filter keeps of an index is one
pub index-filter : (kind : Kind) (p : List ℕ → Bool) (ids : List (List ℕ)) → IsIndex kind ids → IsIndex kind (filter p ids)
index-filter kind p ids index = record {
  kinds = AllWithin-from_all (λ (id : List ℕ). length id ≡ hex_len_of kind) (filter p ids)
      (All-filter p (λ (id : List ℕ). length id ≡ hex_len_of kind) ids (All-from_all_within (λ (id : List ℕ). length id ≡ hex_len_of kind) ids index.kinds));
  rises = λ k d high. AllPairs-filter Below p ids (index-pairs kind ids index) k (k + 1) d (omega arith) high;
}

-- an id has one position
pub one_position : (kind : Kind) (ids : List (List ℕ)) → IsIndex kind ids → (i j : ℕ) → i < length ids → j < length ids
    → get_or ids i [] ≡ get_or ids j [] → i ≡ j
one_position kind ids index i j within inside same = elim (cases_order i j) [
  | inl is ↦ is
  | inr apart ↦ absurd (elim apart [
    | inl less ↦ never_itself (get_or ids j []) (subst (λ (a : List ℕ). Below a (get_or ids j [])) same (index-pairs kind ids index i j [] less inside))
    | inr more ↦ never_itself (get_or ids j []) (subst (λ (a : List ℕ). Below (get_or ids j []) a) same (index-pairs kind ids index j i [] more within))
  ])
]

-- indexes with the same members are equal: they are the keys of equal sets
same_members : (kind : Kind) (xs ys : List (List ℕ)) → IsIndex kind xs → IsIndex kind ys → ((z : List ℕ) → Contains xs z ↔ Contains ys z) → xs ≡ ys
same_members kind xs ys index index' same =
    btree_set_from_contains nat_list_cmp_total (record { keys = xs }) (record { keys = ys }) (index-strict kind xs index) (index-strict kind ys index')
    (λ z.
    let had = btree_set_contains_iff nat_list_cmp_total exact_bytes (record { keys = xs }) z in
    let has = btree_set_contains_iff nat_list_cmp_total exact_bytes (record { keys = ys }) z in
    same_from_decides _ _ had (λ h. (same z).1 (has.0 h), λ c. has.1 ((same z).0 c))) exact_bytes

-- so the index of the ids that pass a test is what passes of the index
pub part_is : (kind : Kind) (p : List ℕ → Bool) (all whole part : List (List ℕ)) → IsIndexOf kind all whole → IsIndexOf kind (filter p all) part
    → part ≡ filter p whole
part_is kind p all whole part one two =
    same_members kind part (filter p whole) two.index (index-filter kind p whole one.index) (λ z. (
      λ h. let in_all = (two.members z).0 h in contains_kept p whole z ((one.members z).1 (contains_had p all z in_all)) (kept_passes p all z in_all),
      λ h. (two.members z).1 (contains_kept p all z ((one.members z).0 (contains_had p whole z h)) (kept_passes p whole z h)),
    ))
