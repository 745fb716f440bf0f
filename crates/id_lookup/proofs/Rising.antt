-- Against the members of a sorted list the place of a prefix is first Greater, then Equal, then Less.
use Rattle.gix_hash.proofs.Std.{◌≡◌, ℕ, ◌≤◌, true, false, List, length, take, get_or, refl, sym, ap, ◌∙◌, arith, Ordering, Less, Equal, Greater, nat_cmp, is_lt, ordering_reverse, ordering_index, slice_cmp, IsNonDecreasingBy, IsPartitionedBy, nat_list_cmp_total, searchable_from_sorted, false≢true}
use Rattle.gix_hash.proofs.CommonBeginnings.{take_less}
use Rattle.id_lookup.proofs.Ordered.{not_less}
use Rattle.gix_hash.specs.Words.{KindDigits, place}
use Rattle.id_lookup.specs.declared.search.Bound.{Bound}
use Rattle.id_lookup.specs.declared.search.Bound.TheVariants.{Start, End}
use Rattle.id_lookup.specs.Runs.{IsSortedIds, is_before_bound}

-- if a list is not below another, nor are its first n elements below the other's
take_not_less : (n : ℕ) (xs ys : List ℕ) → is_lt (slice_cmp nat_cmp xs ys) ≡ false → is_lt (slice_cmp nat_cmp (take n xs) (take n ys)) ≡ false
take_not_less n xs ys h = not_less _ (λ less. false≢true (sym h ∙ ap is_lt (take_less n xs ys less)))

-- the first digits of the members compare ever higher with the prefix
first_digits_nondecreasing : (prefix : KindDigits) (ids : List (List ℕ)) → IsSortedIds ids
    → IsNonDecreasingBy (λ id. ordering_index (slice_cmp nat_cmp (take (length prefix.digits) id) prefix.digits)) ids
first_digits_nondecreasing prefix ids sorted =
    searchable_from_sorted nat_list_cmp_total (λ id. take (length prefix.digits) id) ids prefix.digits
    (λ k d low high. take_not_less (length prefix.digits) _ _ (sorted k d low high))

-- a member before a bound stays before it if its place is lower
still_before : (bound : Bound) (o q : Ordering) → ordering_index o ≤ ordering_index q
    → is_before_bound bound (ordering_reverse q) ≡ true → is_before_bound bound (ordering_reverse o) ≡ true
still_before Start Less q h g = refl
still_before Start Equal Less h g = absurd (omega arith)
still_before Start Greater Less h g = absurd (omega arith)
still_before Start o q h g = g
still_before End Less q h g = refl
still_before End Equal q h g = refl
still_before End Greater Greater h g = g
still_before End Greater q h g = absurd (omega arith)

-- each member before a bound comes before each that is not
pub bound_partitions : (bound : Bound) (prefix : KindDigits) (ids : List (List ℕ)) → IsSortedIds ids
    → IsPartitionedBy (λ id. is_before_bound bound (place prefix.digits id)) ids
bound_partitions bound prefix ids sorted i j d h g passes =
    let lower = get_or ids i d in
    let upper = get_or ids j d in
    let digits = λ (id : List ℕ). take (length prefix.digits) id in
    let turned = λ (id : List ℕ). nat_list_cmp_total.antisymm prefix.digits (digits id) in
    ap (is_before_bound bound) (turned lower)
    ∙ still_before bound _ _ (first_digits_nondecreasing prefix ids sorted i j d h g)
    (ap (is_before_bound bound) (sym (turned upper)) ∙ passes)
