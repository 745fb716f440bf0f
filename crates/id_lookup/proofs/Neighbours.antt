-- The two neighbours of an id in a sorted list decide how many first digits distinguish it from all others.
use Rattle.gix_hash.proofs.Std.{◌≡◌, ◌≢◌, ℕ, zero, suc, ◌+◌, ◌-◌, ◌<◌, ◌≤◌, true, max, List, [], length, get_or, take, nat_eq, inl, inr, sym, ap, ◌∙◌, arith, length-take, length-take-le, take-take, starts_with, cases_lt, false≢true}
use Rattle.gix_hash.specs.Words.{hex_len_of}
use Rattle.gix_hash.specs.declared.Kind.{Kind}
use Rattle.id_lookup.specs.Indexes.{IsIndex, IsShortestAbbreviationFrom, IsUniqueLen, common_at}
use Rattle.id_lookup.proofs.CommonDigits.{common-between, common-differ, common-symm, begins-common, begins-apart}
use Rattle.id_lookup.specs.Runs.{IsSortedIds}
use Rattle.id_lookup.proofs.Indexes.{index-pairs}
use Rattle.id_lookup.proofs.Ordered.{sorted-in_order}

module _ (ids : List (List ℕ)) (sorted : IsSortedIds ids) where
  -- as many digits as distinguish an id from both neighbours distinguish it from all others
  pub unique_by : (at before after : ℕ) → at < length ids → (at ≡ 0 → before ≡ 0) → (0 < at → before ≡ common_at ids at (at - 1) + 1)
      → (at + 1 ≡ length ids → after ≡ 0) → (at + 1 < length ids → after ≡ common_at ids at (at + 1) + 1) → IsUniqueLen ids at (max before after)
  unique_by at before after inside first previous last next = record {
    apart = λ k within other. elim (cases_lt k at) [
      | inl low ↦
          let less = common-between (get_or ids k []) (get_or ids (at - 1) []) (get_or ids at [])
          (sorted-in_order ids sorted k (at - 1) [] (omega arith) (omega arith)) (sorted-in_order ids sorted (at - 1) at [] (omega arith) inside) in
          omega (arith, less.1, previous (omega arith), common-symm (get_or ids k []) (get_or ids at []), common-symm (get_or ids (at - 1) []) (get_or ids at []))
      | inr high ↦
          let less = common-between (get_or ids at []) (get_or ids (at + 1) []) (get_or ids k [])
          (sorted-in_order ids sorted at (at + 1) [] (omega arith) (omega (arith, other))) (sorted-in_order ids sorted (at + 1) k [] (omega (arith, other)) within) in
          omega (arith, less.0, next (omega (arith, other)))
    ];
    reached = λ some. elim (cases_lt before after) [
      | inl lower ↦ elim (cases_lt (at + 1) (length ids)) [
        | inl more ↦ (at + 1, more, omega arith, omega (arith, next more))
        | inr none ↦ absurd (omega (arith, last (omega arith)))
      ]
      | inr higher ↦ elim (cases_lt 0 at) [
        | inl more ↦ (at - 1, omega arith, omega arith, omega (arith, previous more))
        | inr none ↦ absurd (omega (arith, first (omega arith)))
      ]
    ];
  }

-- so the larger of them and `fewest` is the length of the abbreviation
pub shortest : (ids : List (List ℕ)) (fewest at unique len : ℕ) (name : List ℕ) → IsUniqueLen ids at unique → len ≡ max unique fewest
    → len ≤ length (get_or ids at []) → name ≡ take len (get_or ids at []) → IsShortestAbbreviationFrom fewest ids at name
shortest ids fewest at unique len name is_unique is enough name_is =
    let id = get_or ids at [] in
    let len_of : length name ≡ len = ap length name_is ∙ length-take-le len id enough in
    let shared : (n k : ℕ) → n ≤ len → n ≤ common_at ids at k → starts_with nat_eq (get_or ids k []) (take n name) ≡ true =
    λ n k below few. rw (name_is, take-take) (begins-common n id (get_or ids k []) (omega arith) few) in
    record {
      first = name_is ∙ ap (λ n. take n id) (sym len_of);
      long = omega (arith, len_of);
      alone = λ k within other. rw name_is (begins-apart len id (get_or ids k []) enough (omega (arith, is_unique.apart k within other)));
      least = λ n enough_of low.
          let r = is_unique.reached (omega (arith, len_of)) in
          (r.0, r.1, r.2, shared n r.0 (omega (arith, len_of)) (omega (arith, r.3, len_of)));
    }

-- it is at most what is above the digits shared with each other id
unique_within : (ids : List (List ℕ)) (at unique most : ℕ) → IsUniqueLen ids at unique → ((k : ℕ) → k < length ids → k ≢ at → common_at ids at k < most) → unique ≤ most
unique_within ids at zero most is_unique apart = omega arith
unique_within ids at (suc n) most is_unique apart = let r = is_unique.reached (omega arith) in omega (arith, r.3, apart r.0 r.1 r.2)

-- and if the id has fewer digits, it has none
module _ (ids : List (List ℕ)) (fewest at : ℕ) (name : List ℕ) (short : IsShortestAbbreviationFrom fewest ids at name) where
  within : length name ≤ length (get_or ids at [])
  within = omega (arith, ap length short.first, length-take (length name) (get_or ids at []))

  shared_by : (k : ℕ) → k < length ids → k ≢ at → common_at ids at k < length (get_or ids at [])
  shared_by k inside other = elim (cases_lt (common_at ids at k) (length (get_or ids at []))) [
    | inl less ↦ less
    | inr more ↦ absurd (false≢true (sym (short.alone k inside other) ∙ ap (starts_with nat_eq (get_or ids k [])) short.first
        ∙ begins-common (length name) (get_or ids at []) (get_or ids k []) within (omega (arith, more, within))))
  ]

  pub has_room : (unique len : ℕ) → IsUniqueLen ids at unique → len ≡ max unique fewest → len ≤ length (get_or ids at [])
  has_room unique len is_unique is = omega (arith, within, short.long, unique_within ids at unique (length (get_or ids at [])) is_unique shared_by)

module _ (kind : Kind) (ids : List (List ℕ)) (index : IsIndex kind ids) where
  -- two ids of an index do not have all digits in common
  differ : (i j : ℕ) → i < j → j < length ids → common_at ids i j < hex_len_of kind
  differ i j low high =
      let here = index.kinds i [] (omega arith) (omega arith) in
      let there = index.kinds j [] (omega arith) high in
      omega (arith, here, common-differ (get_or ids i []) (get_or ids j []) (here ∙ sym there) (index-pairs kind ids index i j [] low high))

  apart : (at k : ℕ) → at < length ids → k < length ids → k ≢ at → common_at ids at k < hex_len_of kind
  apart at k inside other_inside other = elim (cases_lt k at) [
    | inl low ↦ omega (arith, common-symm (get_or ids at []) (get_or ids k []), differ k at low inside)
    | inr high ↦ differ at k (omega (arith, other)) other_inside
  ]

  -- so the digits of the kind are enough for a name
  pub name_fits : (fewest at unique len : ℕ) → at < length ids → fewest ≤ hex_len_of kind → IsUniqueLen ids at unique → len ≡ max unique fewest → len ≤ hex_len_of kind
  name_fits fewest at unique len inside few is_unique is =
      omega (arith, few, unique_within ids at unique (hex_len_of kind) is_unique (λ k other_inside other. apart at k inside other_inside other))
