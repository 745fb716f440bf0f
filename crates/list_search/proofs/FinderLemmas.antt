-- A part more of a list that comes in parts.
use Rattle.gix_hash.proofs.Std.{◌≡◌, ◌↔◌, ℕ, zero, suc, ◌+◌, ◌≤◌, min, nat_lt, if◌then◌else◌, true, false, Option, Some, None, List, [], ◌∷◌, ◌++◌, map, length, length-append, get_or, refl, sym, ap, ◌∙◌, arith, nat_eq, nat_tests, map-append, length-map, filter-append, length-filter, count_by-le-length, option_map, option_or, is_some, starts_with}
use Rattle.id_lookup.specs.Words.{ObjectId, id_digits, least_hex_len, matches}
use Rattle.list_search.specs.Searches.{order_error, error_of_all, first_refused}
use Rattle.list_search.specs.SearchStates.{HasFound, IsLeast, last_or}
use Rattle.list_search.specs.declared.error.SearchError.{SearchError}
use Rattle.list_search.specs.declared.finder.Finder.{Finder}
use Rattle.list_search.specs.declared.search.Search.{Search}
use Rattle.list_search.specs.declared.search.Search.TheVariants.{Sorted, In}

-- the first error of some ids and more after them
refused-append : (search : Search) (last : Option (List ℕ)) (n : ℕ) (ids more : List (List ℕ))
    → first_refused search last n (ids ++ more) ≡ option_or (first_refused search last n ids) (first_refused search (last_or last ids) (n + length ids) more)
unfolding first_refused
refused-append search last n [] more = let same : n + 0 ≡ n = omega arith in rw same refl
refused-append search last n (id ∷ ids) more =
    let next : n + 1 + length ids ≡ n + suc (length ids) = omega arith in
    by_order _ _ _ (order_error search last id)
    (refused-append search (Some id) (n + 1) ids more
    ∙ ap (λ k. option_or (first_refused search (Some id) (n + 1) ids) (first_refused search (last_or (Some id) ids) k more)) next)
  where
    by_order : (a b c : Option SearchError) (why : Option (ℕ → SearchError)) → a ≡ option_or b c
        → option_or (option_map (λ w. w n) why) a ≡ option_or (option_or (option_map (λ w. w n) why) b) c
    by_order a b c (Some w) h = refl
    by_order a b c None h = h

last_or-append : (last : Option (List ℕ)) (ids more : List (List ℕ)) → last_or last (ids ++ more) ≡ last_or (last_or last ids) more
last_or-append last [] more = refl
last_or-append last (id ∷ ids) more = last_or-append (Some id) ids more

-- the last id of a part
pub last_or-at : (ids : List ObjectId) (last : Option (List ℕ)) (d : ObjectId) (k : ℕ) → length ids ≡ k + 1
    → Some (id_digits (get_or ids k d)) ≡ last_or last (map id_digits ids)
last_or-at [] last d k len = absurd (omega (arith, len))
last_or-at (id ∷ []) last d zero len = refl
last_or-at (id ∷ []) last d (suc k) len = absurd (omega (arith, len))
last_or-at (id ∷ (next ∷ ids)) last d zero len = absurd (omega (arith, len))
last_or-at (id ∷ (next ∷ ids)) last d (suc k) len = last_or-at (next ∷ ids) (Some (id_digits id)) d k (omega (arith, len))

-- of what may be there
pub is_none : {A : Type 0} (x : Option A) → is_some x ≡ false → x ≡ None
is_none None h = refl
is_none (Some x) h = cc h

pub is_some_of : {A : Type 0} (x : Option A) → is_some x ≡ true → (y : A) × (x ≡ Some y)
is_some_of None h = cc h
is_some_of (Some x) h = (x, refl)

-- the smallest number of digits, part by part
least-most : (ids : List (List ℕ)) → least_hex_len ids ≤ 64
least-most [] = omega arith
least-most (id ∷ ids) = omega (arith, least-most ids)

least-append : (ids more : List (List ℕ)) → least_hex_len (ids ++ more) ≡ min (least_hex_len ids) (least_hex_len more)
least-append [] more = omega (arith, least-most more)
least-append (id ∷ ids) more = omega (arith, least-append ids more)

is_least-append : (search : Search) (a b c : ℕ) (ids more : List (List ℕ)) → IsLeast search a ids → IsLeast search b more → c ≡ min a b
    → IsLeast search c (ids ++ more)
is_least-append (Sorted alphabet) a b c ids more first second is = omega (arith, first, second, is, least-append ids more)
is_least-append (In kind) a b c ids more first second is = tt

-- digits are not too many, or there is an error
long_enough : (least n : ℕ) (error : SearchError) → ((if nat_lt least n then Some error else None) ≡ None) ↔ (n ≤ least)
long_enough least n error = (λ none. grind (arith, nat_tests), λ short. let reaches : nat_lt least n ≡ false = grind (arith, nat_tests) in rw reaches refl)

-- digits that are not too many for a list are not too many for its parts
error_of_all-parts : (search : Search) (digits : List ℕ) (ids more : List (List ℕ)) → error_of_all search digits (ids ++ more) ≡ None
    → (error_of_all search digits ids ≡ None) × (error_of_all search digits more ≡ None)
error_of_all-parts (In kind) digits ids more none = (refl, refl)
error_of_all-parts (Sorted alphabet) digits ids more none =
    let short = (long_enough _ _ _).0 none in
    ((long_enough _ _ _).1 (omega (arith, short, least-append ids more)), (long_enough _ _ _).1 (omega (arith, short, least-append ids more)))

-- one part more
module _ {A : Type 0} (search : Search) (digits : List ℕ) (ids : List (List ℕ)) (old new : Finder A) (h : HasFound search digits ids old)
    (part : List ObjectId) (counts : new.count ≡ old.count + length part) where
  counted : new.count ≡ length (ids ++ map id_digits part)
  counted = omega (arith, counts, h.counted, length-append ids (map id_digits part), length-map part id_digits)

  -- the first error of all
  first : first_refused search None 1 (ids ++ map id_digits part) ≡ option_or old.refusal (first_refused search (last_or None ids) (1 + length ids) (map id_digits part))
  first =
      refused-append search None 1 ids (map id_digits part)
      ∙ ap (λ error. option_or error (first_refused search (last_or None ids) (1 + length ids) (map id_digits part))) (sym h.in_order)

  -- is an error
  stopped : (error : SearchError) → new.refusal ≡ Some error → first_refused search None 1 (ids ++ map id_digits part) ≡ Some error
      → HasFound search digits (ids ++ map id_digits part) new
  stopped error is all = record {
    counted = counted;
    in_order = is ∙ sym all;
    is_last = λ none. cc (none, is);
    is_least = λ none. cc (none, is);
    are_found = λ none. cc (none, is);
  }

  -- that was known
  pub found_refused : (error : SearchError) → old.refusal ≡ Some error → new.refusal ≡ old.refusal → HasFound search digits (ids ++ map id_digits part) new
  found_refused error is same = stopped error (same ∙ is) (first ∙ rw is refl)

  -- after ids in order
  after : old.refusal ≡ None → first_refused search None 1 (ids ++ map id_digits part) ≡ first_refused search (option_map id_digits old.last) (old.count + 1) (map id_digits part)
  after none =
      let number : 1 + length ids ≡ old.count + 1 = omega (arith, h.counted) in
      first ∙ rw (none, number) (ap (λ l. first_refused search l (old.count + 1) (map id_digits part)) (sym (h.is_last none)))

  -- with an error
  pub found_stops : (error : SearchError) → old.refusal ≡ None → new.refusal ≡ Some error
      → first_refused search (option_map id_digits old.last) (old.count + 1) (map id_digits part) ≡ Some error
      → HasFound search digits (ids ++ map id_digits part) new
  found_stops error none is stops = stopped error is (after none ∙ stops)

  -- that is in order
  pub found_further : (these : List ObjectId) (least : ℕ) → old.refusal ≡ None → new.refusal ≡ None → new.found.items ≡ old.found.items ++ these
      → option_map id_digits new.last ≡ last_or (option_map id_digits old.last) (map id_digits part) → new.min_hex_len ≡ min old.min_hex_len least
      → first_refused search (option_map id_digits old.last) (old.count + 1) (map id_digits part) ≡ None
      → IsLeast search least (map id_digits part)
      → (error_of_all search digits (map id_digits part) ≡ None → map id_digits these ≡ matches digits (map id_digits part))
      → HasFound search digits (ids ++ map id_digits part) new
  found_further these least none none' items lasts mins in_order is_least finds = record {
    counted = counted;
    in_order = none' ∙ sym (after none ∙ in_order);
    is_last = λ _. lasts ∙ ap (λ l. last_or l (map id_digits part)) (h.is_last none) ∙ sym (last_or-append None ids (map id_digits part));
    is_least = λ _. is_least-append search old.min_hex_len least new.min_hex_len ids (map id_digits part) (h.is_least none) is_least mins;
    are_found = λ _ short.
        let shorts = error_of_all-parts search digits ids (map id_digits part) short in
        ap (map id_digits) items
        ∙ map-append id_digits old.found.items these
        ∙ ap (λ front. front ++ map id_digits these) (h.are_found none shorts.0)
        ∙ ap (λ rest. matches digits ids ++ rest) (finds shorts.1)
        ∙ sym (filter-append (λ id. starts_with nat_eq id digits) ids (map id_digits part));
  }

-- no more ids are found than there are
pub no_more_found : (found part : List ObjectId) (digits : List ℕ) (ids : List (List ℕ)) → map id_digits found ≡ matches digits ids → ids ≡ map id_digits part
    → length found ≤ length part
no_more_found found part digits ids are same =
    let begins = λ (id : List ℕ). starts_with nat_eq id digits in
    omega (arith, ap length are, ap length same, length-map found id_digits, length-map part id_digits, length-filter begins ids, count_by-le-length begins ids)
