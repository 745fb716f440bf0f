-- The order of a list: its first error as a function, and as `id_lookup` states it.
use Rattle.gix_hash.proofs.Std.{◌≡◌, ◌==◌, ◌⊎◌, inl, inr, ℕ, zero, suc, ◌+◌, ◌-◌, ◌<◌, ◌≤◌, ◌&&◌, not, if◌then◌else◌, Bool, true, false, Option, Some, None, List, [], ◌∷◌, length, get_or, refl, sym, ap, subst, ◌∙◌, arith, nat_cmp, is_lt, nat_tests, get_or_default, IsSortedWithin, option_map, option_or, slice_cmp, Ordering, Less, Equal, Greater}
use Rattle.id_lookup.specs.Words.{IsFirstUnsorted, IsIndexUpTo, IsNotRising, IsWrongKind, Kind, hex_len_of}
use Rattle.list_search.specs.Searches.{order_error, first_refused, is_above}
use Rattle.list_search.specs.SearchStates.{error_of_first}
use Rattle.list_search.specs.declared.error.SearchError.{SearchError}
use Rattle.list_search.specs.declared.error.SearchError.TheVariants.{Unsorted, WrongKind, NotRising}
use Rattle.list_search.specs.declared.search.Search.{Search}
use Rattle.list_search.specs.declared.search.Search.TheVariants.{Sorted, In}

-- the id before an index, where `last` is before the first
abbrev pub before_at : Option (List ℕ) → List (List ℕ) → ℕ → Option (List ℕ)
before_at last ids zero = last
before_at last ids (suc k) = Some (get_or ids k [])

-- the error of the id at an index, after the previous one
abbrev pub error_at : Search → Option (List ℕ) → List (List ℕ) → ℕ → Option (ℕ → SearchError)
error_at search last ids k = order_error search (before_at last ids k) (get_or ids k [])

-- none of the first n ids is refused
abbrev pub InOrder : Search → Option (List ℕ) → List (List ℕ) → ℕ → Type 0
InOrder search last ids n = (k : ℕ) → k < n → error_at search last ids k ≡ None

-- no id is refused, or the error is that of the first that is, where the first id has the number n
abbrev pub IsFirst : Search → Option (List ℕ) → ℕ → List (List ℕ) → Option SearchError → Type 0
IsFirst search last n ids None = InOrder search last ids (length ids)
IsFirst search last n ids (Some error) = (at : ℕ) × (why : ℕ → SearchError) × (at < length ids) × InOrder search last ids at
    × (error_at search last ids at ≡ Some why) × (error ≡ why (n + at))

-- an id further
shift : (search : Search) (last : Option (List ℕ)) (id : List ℕ) (ids : List (List ℕ)) (k : ℕ)
    → error_at search last (id ∷ ids) (suc k) ≡ error_at search (Some id) ids k
shift search last id ids zero = refl
shift search last id ids (suc k) = refl

is_first : (search : Search) (last : Option (List ℕ)) (n : ℕ) (ids : List (List ℕ)) → IsFirst search last n ids (first_refused search last n ids)
unfolding first_refused
is_first search last n [] = λ k within. absurd (omega arith)
is_first search last n (id ∷ ids) =
    by_error (order_error search last id) refl (first_refused search (Some id) (n + 1) ids) (is_first search (Some id) (n + 1) ids)
  where
    longer : order_error search last id ≡ None → (m : ℕ) → InOrder search (Some id) ids m → InOrder search last (id ∷ ids) (suc m)
    longer here m more zero within = here
    longer here m more (suc k) within = shift search last id ids k ∙ more k (omega arith)

    by_error : (why : Option (ℕ → SearchError)) → order_error search last id ≡ why → (more : Option SearchError) → IsFirst search (Some id) (n + 1) ids more
        → IsFirst search last n (id ∷ ids) (option_or (option_map (λ w. w n) why) more)
    by_error (Some why) here more h = (0, why, omega arith, λ k within. absurd (omega arith), here, ap why (omega arith))
    by_error None here None h = longer here (length ids) h
    by_error None here (Some error) h =
        (suc h.0, h.1, omega (arith, h.2), longer here h.0 h.3, shift search last id ids h.0 ∙ h.4, h.5 ∙ ap h.1 (omega arith))

-- and no other is
first_is : (search : Search) (last : Option (List ℕ)) (n : ℕ) (ids : List (List ℕ)) (error : Option SearchError) → IsFirst search last n ids error
    → first_refused search last n ids ≡ error
unfolding first_refused
first_is search last n [] None h = refl
first_is search last n [] (Some error) h = absurd (omega (arith, h.2))
first_is search last n (id ∷ ids) None h =
    rw (h 0 (omega arith)) (first_is search (Some id) (n + 1) ids None (λ k within. sym (shift search last id ids k) ∙ h (suc k) (omega arith)))
first_is search last n (id ∷ ids) (Some error) (zero, why, within, before, here, is) = rw here (ap Some (ap why (omega arith) ∙ sym is))
first_is search last n (id ∷ ids) (Some error) (suc at, why, within, before, here, is) =
    rw (before 0 (omega arith)) (first_is search (Some id) (n + 1) ids (Some error) (
      at,
      why,
      omega arith,
      λ k below. sym (shift search last id ids k) ∙ before (suc k) (omega arith),
      sym (shift search last id ids at) ∙ here,
      is ∙ ap why (omega arith),
    ))

-- whether an id is below another
abbrev is_below : List ℕ → List ℕ → Bool
is_below a b = is_lt (slice_cmp nat_cmp a b)

-- an order whose test for Less holds is Less
pub less : (o : Ordering) → is_lt o ≡ true → o ≡ Less
less Less h = refl
less Equal h = cc h
less Greater h = cc h

not_less : (o : Ordering) → is_lt o ≡ false → o ≡ Less → ⊥
not_less o e l = let lt = ap is_lt l in cc

is_not_less : (o : Ordering) → (o ≡ Less → ⊥) → is_lt o ≡ false
is_not_less Less other = absurd (other refl)
is_not_less Equal other = refl
is_not_less Greater other = refl

-- what the error of an id says of it
abbrev Says : Kind → Option (List ℕ) → List ℕ → Option (ℕ → SearchError) → Type 0
Says kind last id None = (length id ≡ hex_len_of kind) × (is_above last id ≡ true)
Says kind last id (Some why) = ((why ≡ WrongKind) × (length id ≡ hex_len_of kind → ⊥))
    ⊎ ((why ≡ NotRising) × (length id ≡ hex_len_of kind) × (is_above last id ≡ false))

says : (kind : Kind) (last : Option (List ℕ)) (id : List ℕ) (why : Option (ℕ → SearchError)) → order_error (In kind) last id ≡ why → Says kind last id why
says kind last id why is = subst (Says kind last id) is (by_tests (length id == hex_len_of kind) refl (is_above last id) refl)
  where
    by_tests : (right : Bool) → (length id == hex_len_of kind) ≡ right → (above : Bool) → is_above last id ≡ above
        → Says kind last id (if not right then Some WrongKind else if above then None else Some NotRising)
    by_tests false r above a = inl (refl, λ (same : length id ≡ hex_len_of kind). grind (arith, nat_tests))
    by_tests true r true a = (grind (arith, nat_tests), a)
    by_tests true r false a = inr (refl, grind (arith, nat_tests), a)

-- an id of the kind, by whether it is above the one before it
of_kind : (kind : Kind) (last : Option (List ℕ)) (id : List ℕ) (above : Bool) → length id ≡ hex_len_of kind → is_above last id ≡ above
    → order_error (In kind) last id ≡ (if above then None else Some NotRising)
of_kind kind last id above right is = let same : (length id == hex_len_of kind) ≡ true = grind (arith, nat_tests) in rw (same, is) refl

-- the first n ids are in order
abbrev pub IsUpTo : Search → ℕ → List (List ℕ) → Type 0
IsUpTo (Sorted alphabet) n ids = IsSortedWithin is_below ids 0 n
IsUpTo (In kind) n ids = IsIndexUpTo n kind ids

-- the id at an index is the first that is refused, for this reason
abbrev pub IsBadAt : Search → List (List ℕ) → ℕ → (ℕ → SearchError) → Type 0
IsBadAt (Sorted alphabet) ids at why = (why ≡ Unsorted) × IsFirstUnsorted ids at
IsBadAt (In kind) ids at why = ((why ≡ WrongKind) × IsWrongKind kind ids at) ⊎ ((why ≡ NotRising) × IsNotRising kind ids at)

-- ids are in order if and only if none is refused
in_order : (search : Search) (ids : List (List ℕ)) (n : ℕ) → IsUpTo search n ids → InOrder search None ids n
in_order (Sorted alphabet) ids n sorted zero within = refl
in_order (Sorted alphabet) ids n sorted (suc k) within =
    let next : k + 1 ≡ suc k = omega arith in rw (rw next at (sorted k [] (omega arith) (omega arith))) refl
in_order (In kind) ids n h zero within = of_kind kind None (get_or ids 0 []) true (h.kinds 0 [] (omega arith) within) refl
in_order (In kind) ids n h (suc k) within =
    let next : k + 1 ≡ suc k = omega arith in
    of_kind kind (Some (get_or ids k [])) (get_or ids (suc k) []) true (h.kinds (suc k) [] (omega arith) within) (ap is_lt (rw next at (h.rises k [] (omega arith))))

up_to : (search : Search) (ids : List (List ℕ)) (n : ℕ) → n ≤ length ids → InOrder search None ids n → IsUpTo search n ids
up_to (Sorted alphabet) ids n inside order = λ k d low within.
    let next : k + 1 ≡ suc k = omega arith in
    rw (next, get_or_default ids (suc k) d [] (omega arith), get_or_default ids k d [] (omega arith)) (by_test _ (order (suc k) (omega arith)))
  where
    by_test : (b : Bool) → ◌≡◌ {A = Option (ℕ → SearchError)} (if b then Some Unsorted else None) None → b ≡ false
    by_test true h = cc h
    by_test false h = refl
up_to (In kind) ids n inside order = record {
  kinds = λ k d low high. rw (get_or_default ids k d [] (omega arith)) (says kind (before_at None ids k) (get_or ids k []) None (order k high)).0;
  rises = λ k d high.
      let next : k + 1 ≡ suc k = omega arith in
      rw (next, get_or_default ids (suc k) d [] (omega arith), get_or_default ids k d [] (omega arith))
      (less _ (says kind (Some (get_or ids k [])) (get_or ids (suc k) []) None (order (suc k) (omega arith))).1);
}

-- an id is refused if and only if it is the first that is not
bad_at : (search : Search) (ids : List (List ℕ)) (at : ℕ) (why : ℕ → SearchError) → at < length ids → InOrder search None ids at
    → error_at search None ids at ≡ Some why → IsBadAt search ids at why
bad_at (Sorted alphabet) ids zero why within before here = cc here
bad_at (Sorted alphabet) ids (suc at) why within before here = by_test _ refl here
  where
    by_test : (b : Bool) → is_below (get_or ids (suc at) []) (get_or ids at []) ≡ b → (if b then Some Unsorted else None) ≡ Some why
        → IsBadAt (Sorted alphabet) ids (suc at) why
    by_test false is h = cc h
    by_test true is h =
        let last : suc at - 1 ≡ at = omega arith in
        (cc h, record { has_predecessor = omega arith; in_range = within; falls = rw last (less _ is); sorted_before = up_to (Sorted alphabet) ids (suc at) (omega arith) before })
bad_at (In kind) ids at why within before here = by_reason at within before (says kind (before_at None ids at) (get_or ids at []) (Some why) here)
  where
    by_reason : (at : ℕ) → at < length ids → InOrder (In kind) None ids at → Says kind (before_at None ids at) (get_or ids at []) (Some why)
        → IsBadAt (In kind) ids at why
    by_reason at within before (inl wrong) =
        inl (wrong.0, record { in_range = within; before = up_to (In kind) ids at (omega arith) before; wrong = wrong.1 })
    by_reason zero within before (inr low) = cc low.2
    by_reason (suc at) within before (inr low) =
        let last : suc at - 1 ≡ at = omega arith in
        inr (
          low.0,
          record {
            has_predecessor = omega arith;
            in_range = within;
            before = up_to (In kind) ids (suc at) (omega arith) before;
            same_kind = low.1;
            not_above = rw last (not_less _ low.2);
          },
        )

is_bad : (search : Search) (n : ℕ) (ids : List (List ℕ)) (at : ℕ) (why : ℕ → SearchError) → IsBadAt search ids at why → IsFirst search None n ids (Some (why (n + at)))
is_bad (Sorted alphabet) n ids zero why h = absurd (omega (arith, h.1.has_predecessor))
is_bad (Sorted alphabet) n ids (suc at) why h =
    let last : suc at - 1 ≡ at = omega arith in
    let below = ap is_lt (rw last at h.1.falls) in
    (suc at, why, h.1.in_range, in_order (Sorted alphabet) ids (suc at) h.1.sorted_before, rw (below, h.0) refl, refl)
is_bad (In kind) n ids at why (inl (is, bad)) =
    let other : (length (get_or ids at []) == hex_len_of kind) ≡ false = grind (arith, nat_tests, bad.wrong) in
    (at, why, bad.in_range, in_order (In kind) ids at bad.before, rw (other, is) refl, refl)
is_bad (In kind) n ids zero why (inr (is, bad)) = absurd (omega (arith, bad.has_predecessor))
is_bad (In kind) n ids (suc at) why (inr (is, bad)) =
    let last : suc at - 1 ≡ at = omega arith in (
      suc at,
      why,
      bad.in_range,
      in_order (In kind) ids (suc at) bad.before,
      of_kind kind (Some (get_or ids at [])) (get_or ids (suc at) []) false bad.same_kind (is_not_less _ (rw last at bad.not_above)) ∙ ap Some (sym is),
      refl,
    )

-- the first error of ids, where the first id has the number n
pub in_order_is : (search : Search) (n : ℕ) (ids : List (List ℕ)) → IsUpTo search (length ids) ids → first_refused search None n ids ≡ None
in_order_is search n ids h = first_is search None n ids None (in_order search ids (length ids) h)

pub bad_is : (search : Search) (n : ℕ) (ids : List (List ℕ)) (at : ℕ) (why : ℕ → SearchError) → IsBadAt search ids at why
    → first_refused search None n ids ≡ Some (why (n + at))
bad_is search n ids at why h = first_is search None n ids (Some (why (n + at))) (is_bad search n ids at why h)

abbrev pub IsOrder : Search → ℕ → List (List ℕ) → Option SearchError → Type 0
IsOrder search n ids None = IsUpTo search (length ids) ids
IsOrder search n ids (Some error) = (at : ℕ) × (why : ℕ → SearchError) × (error ≡ why (n + at)) × IsBadAt search ids at why

pub order_is : (search : Search) (n : ℕ) (ids : List (List ℕ)) → IsOrder search n ids (first_refused search None n ids)
order_is search n ids =
    elim (first_refused search None n ids) as (λ error. IsFirst search None n ids error → IsOrder search n ids error) [
      | None ↦ λ order. up_to search ids (length ids) (omega arith) order
      | Some error ↦ λ h. (h.0, h.1, h.5, bad_at search ids h.0 h.1 h.2 h.3 h.4)
    ] (is_first search None n ids)

-- the first of a part may be refused for the id before it; else the part is in order if it is by itself
pub late_first : (search : Search) (last : Option (List ℕ)) (n : ℕ) (ids : List (List ℕ))
    → first_refused search last n ids ≡ option_or (error_of_first search n last ids) (first_refused search None n ids)
unfolding first_refused
late_first search None n ids = refl
late_first search (Some last) n [] = refl
late_first (Sorted alphabet) (Some last) n (id ∷ ids) =
    let more = first_refused (Sorted alphabet) (Some id) (n + 1) ids in
    elim (is_below id last) as (λ b. option_or (option_map (λ why. why n) (if b then Some Unsorted else None)) more ≡ option_or (if b then Some (Unsorted n) else None) more)
    [ true ↦ refl | false ↦ refl ]
late_first (In kind) (Some last) n (id ∷ ids) = by_tests (length id == hex_len_of kind) (is_below last id) (first_refused (In kind) (Some id) (n + 1) ids)
  where
    by_tests : (right above : Bool) (more : Option SearchError)
        → option_or (option_map (λ why. why n) (if not right then Some WrongKind else if above then None else Some NotRising)) more
        ≡ option_or (if right && not above then Some (NotRising n) else None)
        (option_or (option_map (λ why. why n) (if not right then Some WrongKind else if true then None else Some NotRising)) more)
    by_tests true true more = refl
    by_tests true false more = refl
    by_tests false above more = refl

pub in_order_after : (search : Search) (last : Option (List ℕ)) (n : ℕ) (ids : List (List ℕ)) → error_of_first search n last ids ≡ None
    → IsUpTo search (length ids) ids → first_refused search last n ids ≡ None
in_order_after search last n ids none h = late_first search last n ids ∙ rw none (in_order_is search n ids h)
