-- A prefix that comes before the first of sorted ids, or after the last: none begins with it.
use Rattle.gix_hash.proofs.Std.{◌≡◌, ◌⊎◌, inl, inr, ℕ, ◌-◌, ◌<◌, true, false, nat_eq, List, [], length, take, get_or, refl, sym, ap, ◌∙◌, arith, is_eq, is_gt, is_ge, starts_with, false≢true, false_from_ne_true, All-from_get_or, texts_ties, Ordering, Less, Equal, Greater}
use Rattle.gix_hash.specs.Words.{KindDigits, place}
use Rattle.id_lookup.specs.Runs.{IsSortedIds, matches}
use Rattle.id_lookup.specs.declared.search.Bound.TheVariants.{Start, End}
use Rattle.id_lookup.proofs.Filtering.{filter_none}
use Rattle.id_lookup.proofs.Rising.{bound_partitions}

-- an order is not Equal if it is Greater, or if it is Less
not_tied : (o : Ordering) → ((is_gt o ≡ true) ⊎ (is_ge o ≡ false)) → is_eq o ≡ false
not_tied Less h = refl
not_tied Equal (inl h) = cc h
not_tied Equal (inr h) = cc h
not_tied Greater h = refl

-- ids do not begin with digits that come after each of them, or before each
none_begins : (digits : List ℕ) (ids : List (List ℕ))
    → ((k : ℕ) → k < length ids → (is_gt (place digits (get_or ids k [])) ≡ true) ⊎ (is_ge (place digits (get_or ids k [])) ≡ false)) → matches digits ids ≡ []
none_begins digits ids apart =
    filter_none (λ id. starts_with nat_eq id digits) ids (All-from_get_or (λ id. starts_with nat_eq id digits ≡ false) ids []
    (λ k inside. texts_ties digits (take (length digits) (get_or ids k [])) ∙ not_tied _ (apart k inside)))

pub no_matches : (prefix : KindDigits) (ids : List (List ℕ)) → IsSortedIds ids → 0 < length ids
    → ((place prefix.digits (get_or ids 0 []) ≡ Less) ⊎ (place prefix.digits (get_or ids (length ids - 1) []) ≡ Greater)) → matches prefix.digits ids ≡ []
no_matches prefix ids sorted some (inr after) =
    none_begins prefix.digits ids (λ k inside. inl (bound_partitions Start prefix ids sorted k (length ids - 1) [] (omega arith) (omega arith) (ap is_gt after)))
no_matches prefix ids sorted some (inl before) =
    none_begins prefix.digits ids (λ k inside. inr (false_from_ne_true _ (λ reached.
    false≢true (sym (ap is_ge before) ∙ bound_partitions End prefix ids sorted 0 k [] (omega arith) inside reached))))
