-- Sorted lists: up to an index, and at any two indexes.
use Rattle.gix_hash.proofs.Std.{◌≡◌, ◌≢◌, ℕ, ◌+◌, ◌-◌, ◌<◌, ◌≤◌, List, [], length, get_or, false, ◌⊎◌, inl, inr, refl, arith, nat_cmp, is_lt, AllAdjacentBelow, slice_cmp, Ordering, Less, Equal, Greater, cases_lt, nat_list_cmp_total, get_or_default, all_adjacent_more, sorted_far, ranks_by}
use Rattle.id_lookup.specs.Runs.{IsSortedIds}

-- an order that is not Less fails the test for Less
pub not_less : (o : Ordering) → o ≢ Less → is_lt o ≡ false
not_less Less h = absurd (h refl)
not_less Equal h = refl
not_less Greater h = refl

-- what relates each id to the next one, up to an index, and the one before that index to the one there, does so up to the next index
pub adjacent_more : (R : List ℕ → List ℕ → Type 0) (ids : List (List ℕ)) (at : ℕ) → at < length ids → AllAdjacentBelow R ids at
    → (0 < at → R (get_or ids (at - 1) []) (get_or ids at [])) → AllAdjacentBelow R ids (at + 1)
adjacent_more R ids at inside before here = by (cases_lt 0 at)
  where
    by : ((0 < at) ⊎ (at ≤ 0)) → AllAdjacentBelow R ids (at + 1)
    by (inl some) = all_adjacent_more ids R at some before (λ d. rw (get_or_default ids at d [] inside, get_or_default ids (at - 1) d [] (omega arith)) (here some))
    by (inr none) = λ k d low. absurd (omega arith)

-- no id of a sorted list is below one before it
pub sorted-in_order : (ids : List (List ℕ)) → IsSortedIds ids → (i j : ℕ) (d : List ℕ) → i ≤ j → j < length ids
    → is_lt (slice_cmp nat_cmp (get_or ids j d) (get_or ids i d)) ≡ false
sorted-in_order ids sorted = sorted_far (λ a b. is_lt (slice_cmp nat_cmp a b)) (ranks_by nat_list_cmp_total (λ (id : List ℕ). id)) ids sorted
