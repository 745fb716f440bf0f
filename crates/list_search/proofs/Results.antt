-- Each result of a search holds of the two texts, and only one does.
use Rattle.gix_hash.proofs.Std.{◌≡◌, ◌↔◌, ℕ, ◌+◌, ◌-◌, ◌<◌, ◌≤◌, nat_lt, Bool, true, false, Option, Some, None, List, [], ◌∷◌, ◌++◌, length, refl, ap, subst, arith, Result, Ok, Err, IsOk, is_ok, ◌∙◌, inl, inr, All, nat_tests, All-cons, All-head, All-tail, AllZip, option_or}
use Rattle.id_lookup.specs.Words.{KindDigits, full_read, hex_letter, least_hex_len, matches}
use Rattle.gix_hash.specs.declared.decode.Error.{Error}
use Rattle.gix_hash.specs.declared.prefix.from_hex.Error.{Error as PrefixError}
use Rattle.streams.specs.Streams.{lines_of}
use Rattle.list_search.specs.Lists.{IsFirstBad, IsLineOf, ids_read, list_read, prepend_line}
use Rattle.list_search.specs.Searches.{IsSearch, error_of_all, error_or, finding, first_refused, found_among, found_texts, prefix_for, FoundHolds, ResultHolds}
use Rattle.list_search.specs.declared.error.SearchError.{SearchError}
use Rattle.list_search.specs.declared.error.SearchError.TheVariants.{Prefix, BadLine, Unsorted, PrefixTooLong, WrongKind, NotRising}
use Rattle.list_search.specs.declared.search.Search.{Search}
use Rattle.list_search.specs.declared.search.Search.TheVariants.{Sorted, In}
use Rattle.list_search.proofs.Orders.{IsOrder, in_order_is, bad_is, order_is}

-- what the result for some lines says of them
abbrev pub LinesHold : ℕ → List (List ℕ) → Result (List (List ℕ)) SearchError → Type 0
LinesHold n lines (Ok ids) = AllZip IsLineOf lines ids
LinesHold n lines (Err (BadLine m error)) = IsFirstBad n lines m error
LinesHold n lines (Err error) = ⊥

pub ids_read-means : (n : ℕ) (lines : List (List ℕ)) → LinesHold n lines (ids_read n lines)
unfolding ids_read
ids_read-means n [] = tt
ids_read-means n (line ∷ lines) = by_line (full_read hex_letter line) refl (ids_read (n + 1) lines) (ids_read-means (n + 1) lines)
  where
    by_line : (read : Result KindDigits Error) → full_read hex_letter line ≡ read → (more : Result (List (List ℕ)) SearchError)
        → LinesHold (n + 1) lines more → LinesHold n (line ∷ lines) (prepend_line n read more)
    by_line (Err error) is more h = record {
      before = [];
      line = line;
      after = lines;
      is = refl;
      number = omega arith;
      read = λ k d within. absurd (omega arith);
      refused = is;
    }
    by_line (Ok id) is (Ok ids) h = ((id.kind, is), h)
    by_line (Ok id) is (Err (BadLine m error)) h = record {
      before = line ∷ h.before;
      line = h.line;
      after = h.after;
      is = ap (λ ls. line ∷ ls) h.is;
      number = omega (arith, h.number);
      read = All-cons (λ l. IsOk (full_read hex_letter l)) line h.before (ap is_ok is) h.read;
      refused = h.refused;
    }
    by_line (Ok id) is (Err error) h = absurd h

-- what is found among ids holds
pub found_holds : (search : Search) (digits : List ℕ) (ids : List (List ℕ)) → FoundHolds search digits ids (found_among search digits ids)
found_holds (Sorted alphabet) digits ids = by_order (first_refused (Sorted alphabet) None 1 ids) (order_is (Sorted alphabet) 1 ids)
  where
    by_order : (order : Option SearchError) → IsOrder (Sorted alphabet) 1 ids order
        → FoundHolds (Sorted alphabet) digits ids (error_or (option_or order (error_of_all (Sorted alphabet) digits ids)) (matches digits ids))
    by_order (Some error) (at, why, is, fall) =
        let there : 1 + at - 1 ≡ at = omega arith in rw (is ∙ ap (λ (w : ℕ → SearchError). w (1 + at)) fall.0) (rw there fall.1)
    by_order None h = by_test (nat_lt (least_hex_len ids) (length digits)) refl
      where
        by_test : (b : Bool) → nat_lt (least_hex_len ids) (length digits) ≡ b
            → FoundHolds (Sorted alphabet) digits ids (error_or (error_of_all (Sorted alphabet) digits ids) (matches digits ids))
        by_test true e = rw e (h, refl, refl, grind (arith, nat_tests))
        by_test false e = rw e (h, grind (arith, nat_tests), refl)
found_holds (In kind) digits ids = by_order (first_refused (In kind) None 1 ids) (order_is (In kind) 1 ids)
  where
    by_order : (order : Option SearchError) → IsOrder (In kind) 1 ids order
        → FoundHolds (In kind) digits ids (error_or (option_or order None) (matches digits ids))
    by_order None h = (h, refl)
    by_order (Some error) (at, why, is, inl bad) = rw (is ∙ ap (λ (w : ℕ → SearchError). w (1 + at)) bad.0) (at, omega arith, bad.1)
    by_order (Some error) (at, why, is, inr bad) = rw (is ∙ ap (λ (w : ℕ → SearchError). w (1 + at)) bad.0) (at, omega arith, bad.1)

-- and nothing else does
found_is : (search : Search) (digits : List ℕ) (ids : List (List ℕ)) (answer : Result (List (List ℕ)) SearchError) → FoundHolds search digits ids answer
    → found_among search digits ids ≡ answer
found_is (Sorted alphabet) digits ids (Ok found) m =
    let long_enough : length digits ≤ least_hex_len ids = m.1 in
    let reaches : nat_lt (least_hex_len ids) (length digits) ≡ false = grind (arith, nat_tests) in
    rw (in_order_is (Sorted alphabet) 1 ids m.0, reaches, m.2) refl
found_is (Sorted alphabet) digits ids (Err (Unsorted n)) m =
    let number : 1 + (n - 1) ≡ n = omega (arith, m.has_predecessor) in rw (bad_is (Sorted alphabet) 1 ids (n - 1) Unsorted (refl, m), number) refl
found_is (Sorted alphabet) digits ids (Err (PrefixTooLong hex_len least)) m =
    let too_long : least_hex_len ids < length digits = omega (arith, m.1, m.2, m.3) in
    let reaches : nat_lt (least_hex_len ids) (length digits) ≡ true = grind (arith, nat_tests) in
    rw (in_order_is (Sorted alphabet) 1 ids m.0, reaches, m.1, m.2) refl
found_is (In kind) digits ids (Ok found) m = rw (in_order_is (In kind) 1 ids m.0, m.1) refl
found_is (In kind) digits ids (Err (WrongKind n)) m =
    let number : 1 + m.0 ≡ n = omega (arith, m.1) in rw (bad_is (In kind) 1 ids m.0 WrongKind (inl (refl, m.2)), number) refl
found_is (In kind) digits ids (Err (NotRising n)) m =
    let number : 1 + m.0 ≡ n = omega (arith, m.1) in rw (bad_is (In kind) 1 ids m.0 NotRising (inr (refl, m.2)), number) refl
found_is search digits ids answer m = absurd m

-- so it is with the texts
holds_of : (search : Search) (prefix text : List ℕ) (read : IsSearch (prefix_for search prefix) text) (answer : Result (List (List ℕ)) SearchError)
    → FoundHolds search read.start.digits read.ids answer → ResultHolds search prefix text answer
holds_of (Sorted alphabet) prefix text read (Err (Prefix error)) h = absurd h
holds_of (In kind) prefix text read (Err (Prefix error)) h = absurd h
holds_of (Sorted alphabet) prefix text read (Err (BadLine n error)) h = absurd h
holds_of (In kind) prefix text read (Err (BadLine n error)) h = absurd h
holds_of search prefix text read answer h = (read, h)

-- the function's result holds
result_holds : (search : Search) (prefix text : List ℕ) → ResultHolds search prefix text (finding search prefix text)
result_holds search prefix text = by_texts (prefix_for search prefix) refl (list_read text) (ids_read-means 1 (lines_of text))
  where
    by_texts : (read : Result KindDigits PrefixError) → prefix_for search prefix ≡ read → (ids : Result (List (List ℕ)) SearchError)
        → LinesHold 1 (lines_of text) ids → ResultHolds search prefix text (found_texts search read ids)
    by_texts (Err error) is ids h = is
    by_texts (Ok p) is (Err (BadLine n error)) h = (ap is_ok is, h)
    by_texts (Ok p) is (Err error) h = absurd h
    by_texts (Ok p) is (Ok ids) h =
        holds_of search prefix text (record { start = p; ids = ids; prefix_reads = is; list_reads = h }) (found_among search p.digits ids) (found_holds search p.digits ids)

-- lines that read as ids
pub ids_read-of : (n : ℕ) (lines ids : List (List ℕ)) → AllZip IsLineOf lines ids → ids_read n lines ≡ Ok ids
unfolding ids_read
ids_read-of n [] [] h = refl
ids_read-of n [] (id ∷ ids) h = absurd h
ids_read-of n (line ∷ lines) [] h = absurd h
ids_read-of n (line ∷ lines) (id ∷ ids) h = rw (h.0.1, ids_read-of (n + 1) lines ids h.1) refl

-- a line that reads, before an error
prepend_line-err : (n : ℕ) (read : Result KindDigits Error) (error : SearchError) → IsOk read → prepend_line n read (Err error) ≡ Err error
prepend_line-err n (Ok id) error h = refl
prepend_line-err n (Err e) error h = cc h

-- lines of which one is the first bad one
pub ids_read-bad : (n : ℕ) (before : List (List ℕ)) (line : List ℕ) (after : List (List ℕ)) (error : Error)
    → All (λ l. IsOk (full_read hex_letter l)) before → full_read hex_letter line ≡ Err error
    → ids_read n (before ++ line ∷ after) ≡ Err (BadLine (n + length before) error)
unfolding ids_read
ids_read-bad n [] line after error reads refused =
    let here : n + 0 ≡ n = omega arith in rw (refused, here) refl
ids_read-bad n (l ∷ before) line after error reads refused =
    let more = ids_read-bad (n + 1) before line after error (All-tail (λ l. IsOk (full_read hex_letter l)) l before reads) refused in
    let next : n + 1 + length before ≡ n + length (l ∷ before) = omega arith in
    rw (more, next) (prepend_line-err n (full_read hex_letter l) (BadLine (n + length (l ∷ before)) error) (All-head (λ l. IsOk (full_read hex_letter l)) l before reads))

-- a text with a first bad line
pub list_read-bad : (text : List ℕ) (m : ℕ) (error : Error) → IsFirstBad 1 (lines_of text) m error → list_read text ≡ Err (BadLine m error)
list_read-bad text m error h =
    rw (h.is, h.number) (ids_read-bad 1 h.before h.line h.after error h.read h.refused)

-- if the prefix reads, the error is the list's
found_texts-list : (search : Search) (read : Result KindDigits PrefixError) (error : SearchError) → IsOk read → found_texts search read (Err error) ≡ Err error
found_texts-list search (Ok p) error h = refl
found_texts-list search (Err e) error h = cc h

-- and a result that holds is the function's
is_result : (search : Search) (prefix text : List ℕ) (answer : Result (List (List ℕ)) SearchError) → ResultHolds search prefix text answer
    → finding search prefix text ≡ answer
is_result search prefix text (Err (Prefix error)) m = rw m refl
is_result search prefix text (Err (BadLine n error)) m = rw (list_read-bad text n error m.1) (found_texts-list search (prefix_for search prefix) (BadLine n error) m.0)
is_result search prefix text answer m =
    rw (m.0.prefix_reads, ids_read-of 1 (lines_of text) m.0.ids m.0.list_reads) (found_is search m.0.start.digits m.0.ids answer m.1)

-- so a result is the function's if and only if it holds
pub result_means : (search : Search) (prefix text : List ℕ) (answer : Result (List (List ℕ)) SearchError)
    → (finding search prefix text ≡ answer) ↔ ResultHolds search prefix text answer
result_means search prefix text answer =
    (λ is. subst (ResultHolds search prefix text) is (result_holds search prefix text), is_result search prefix text answer)
