-- Where the ids of a sorted run are that begin with the digits of a prefix, by the place of the prefix against one id.
use Rattle.gix_hash.proofs.Std.{◌≡◌, ◌≢◌, ℕ, ◌+◌, ◌-◌, ◌<◌, ◌≤◌, true, false, nat_eq, List, [], length, get_or, take, drop, inl, inr, refl, sym, ap, ◌∙◌, arith, slice_range, is_lt, nat_cmp, slice_cmp, Less, Greater, ordering_reverse, cases_lt, false≢true, get_or-drop, get_or-take, length-drop, length-take-le, nat_list_cmp_total, ranks_by, sorted_far, starts_with, take_at}
use Rattle.gix_hash.proofs.CommonBeginnings.{take_less}
use Rattle.id_lookup.specs.Words.{IsSortedIds, place}
use Rattle.id_lookup.proofs.Spelled.{starts_with-BeginsWith}
use Rattle.pack_index.specs.Lazy.{BeginWithin}

-- an id that begins with digits is above another that they come after, and below one that comes after them
module _ (digits id other : List ℕ) (begins : starts_with nat_eq id digits ≡ true) where
  front : take (length digits) id ≡ digits
  front = let is = (starts_with-BeginsWith id digits).0 begins in ap (take (length digits)) is.1 ∙ take_at digits is.0 (length digits) refl

  is_above : place digits other ≡ Greater → slice_cmp nat_cmp other id ≡ Less
  is_above greater =
      take_less (length digits) other id
      (ap (slice_cmp nat_cmp (take (length digits) other)) front ∙ nat_list_cmp_total.antisymm (take (length digits) other) digits ∙ ap ordering_reverse greater)

  is_below : place digits other ≡ Less → slice_cmp nat_cmp id other ≡ Less
  is_below less = take_less (length digits) id other (ap (λ (first : List ℕ). slice_cmp nat_cmp first (take (length digits) other)) front ∙ less)

not_itself : (id : List ℕ) → slice_cmp nat_cmp id id ≢ Less
not_itself id less = let turned : slice_cmp nat_cmp id id ≡ Greater = nat_list_cmp_total.antisymm id id ∙ ap ordering_reverse less in cc

-- a part of a sorted run that has all of its ids that begin with the digits
module _ (names : List (List ℕ)) (digits : List ℕ) (at start end from to : ℕ) (inside : end ≤ length names) (above : start ≤ from) (low : from ≤ at)
    (high : at < to) (below : to ≤ end) (sorted : IsSortedIds (slice_range names start end)) (within : BeginWithin names digits start end from to) where
  id_at : (k : ℕ) → start ≤ k → k < end → get_or (slice_range names start end) (k - start) [] ≡ get_or names k []
  id_at k first last =
      let back : start + (k - start) ≡ k = omega arith in
      get_or-take (end - start) (drop start names) (k - start) [] (omega arith) ∙ get_or-drop start names (k - start) [] ∙ ap (λ j. get_or names j []) back

  in_order : (i j : ℕ) → start ≤ i → i < j → j < end → is_lt (slice_cmp nat_cmp (get_or names j []) (get_or names i [])) ≡ false
  in_order i j first less last =
      let long : length (slice_range names start end) ≡ end - start =
      length-take-le (end - start) (drop start names) (omega (arith, length-drop start names, inside, above, low, high, below)) in
      let ordered = sorted_far (λ a b. is_lt (slice_cmp nat_cmp a b)) (ranks_by nat_list_cmp_total (λ (id : List ℕ). id)) (slice_range names start end) sorted in
      (λ k. is_lt (slice_cmp nat_cmp (sym (id_at j (omega (arith, first, less)) last) k) (sym (id_at i first (omega (arith, less, last))) k)))
      ∙ ordered (i - start) (j - start) [] (omega (arith, first, less)) (omega (arith, long, first, less, last))

  -- a lower id is before a higher one
  comes_first : (i j : ℕ) → i < end → start ≤ j → slice_cmp nat_cmp (get_or names i []) (get_or names j []) ≡ Less → i < j
  comes_first i j last first less =
      elim (cases_lt i j) [
        | inl before ↦ before
        | inr up ↦ elim (cases_lt j i) [
          | inl after ↦ absurd (false≢true (sym (in_order j i first after last) ∙ ap is_lt less))
          | inr down ↦
              let same : j ≡ i = omega (arith, up, down) in
              absurd (not_itself (get_or names i []) (ap (λ k. slice_cmp nat_cmp (get_or names i []) (get_or names k [])) (sym same) ∙ less))
        ]
      ]

  -- none up to an id that the digits come after
  pub cut_low : place digits (get_or names at []) ≡ Greater → BeginWithin names digits start end (at + 1) to
  cut_low greater = λ k first last begins.
      let after = comes_first at k (omega (arith, high, below)) first (is_above digits (get_or names k []) (get_or names at []) begins greater) in
      (omega (arith, after), (within k first last begins).1)

  -- and none from one on that comes after them
  pub cut_high : place digits (get_or names at []) ≡ Less → BeginWithin names digits start end from at
  cut_high less = λ k first last begins.
      ((within k first last begins).0, comes_first k at last (omega (arith, above, low)) (is_below digits (get_or names k []) (get_or names at []) begins less))
