-- Sorted lines of full ids: the ids that they read as, and what is known of these.
use Rattle.gix_hash.proofs.Std.{◌≡◌, ◌⊎◌, inl, inr, ℕ, zero, suc, ◌+◌, ◌-◌, ◌<◌, ◌≤◌, Bool, true, false, nat_eq, if◌then◌else◌, IsTrue, Option, Some, None, Ok, List, [], ◌∷◌, map, length, take, get_or, refl, sym, ap, subst, ◌∙◌, arith, Less, Equal, Greater, nat_tests, nat_list_cmp_total, length-map, get_or-map, nat_cmp, is_lt, is_le, ordering_reverse, slice_cmp, Ordering}
use Rattle.id_lookup.specs.Words.{IsSortedIds, Kind, KindDigits, ObjectId, Sha1, Sha256, byte_len_of, digits_of, full_read, hex_len_of, hex_letter, id_digits, id_of as made, kind_of_full_len, least_hex_len, place, reading_of, whole_of}
use Rattle.gix_hash.specs.declared.decode.Error.TheVariants.{InvalidHexEncodingLength, Invalid}
use Rattle.gix_hash.proofs.KindFacts.{hex_len_of-bytes}
use Rattle.id_digits.specs.Letters.{AreSortedLines, IsIdLine, is_line_len, line_values, may_follow, packed, value_of}
use Rattle.id_digits.proofs.ReadLines.{length-letters, packed_line, line_reads}
use Rattle.id_lookup.proofs.Indexes.{index-sorted}
use Rattle.id_lookup.proofs.OutsidePrefixes.{no_matches}
use Rattle.list_search.specs.declared.error.SearchError.{SearchError}
use Rattle.list_search.specs.declared.error.SearchError.TheVariants.{Unsorted, NotRising}
use Rattle.list_search.specs.declared.search.Search.{Search}
use Rattle.list_search.specs.declared.search.Search.TheVariants.{Sorted, In}
use Rattle.list_search.proofs.FinderLemmas.{last_or-at}
use Rattle.list_search.proofs.Orders.{IsUpTo, in_order_after, less}
use Rattle.list_search.specs.SearchStates.{AreLinesOf, CanSkip, IsLeast, IsLineOfId, TakesLength, allows_repeats, error_of_first}

-- the kind of the ids in lines of a length
pub kind_of_line : (len : ℕ) → IsTrue (is_line_len len) → (kind : Kind) × (len - 1 ≡ hex_len_of kind)
kind_of_line len is = by (nat_eq len 41) refl
  where
    by : (b : Bool) → nat_eq len 41 ≡ b → (kind : Kind) × (len - 1 ≡ hex_len_of kind)
    by true short = let same : len - 1 ≡ 40 = grind (arith, nat_tests, short) in (Sha1, same)
    by false long = let same : len - 1 ≡ 64 = grind (arith, nat_tests, is, long) in (Sha256, same)

made_digits : (kind : Kind) (bytes : List ℕ) → id_digits (made kind bytes) ≡ digits_of bytes
made_digits Sha1 bytes = refl
made_digits Sha256 bytes = refl

made_whole : (kind : Kind) (bytes : List ℕ)
    → reading_of (kind_of_full_len (hex_len_of kind)) (Some (digits_of bytes)) (InvalidHexEncodingLength (hex_len_of kind)) Invalid ≡ Ok (whole_of (made kind bytes))
made_whole Sha1 bytes = refl
made_whole Sha256 bytes = refl

-- the id that a line reads as
abbrev id_of : Kind → List ℕ → ObjectId
id_of kind line = made kind (packed (line_values (hex_len_of kind) line))

abbrev ids_of : Kind → List (List ℕ) → List ObjectId
ids_of kind lines = map (id_of kind) lines

abbrev digits_in : Kind → List (List ℕ) → List (List ℕ)
digits_in kind lines = map id_digits (ids_of kind lines)

count : (kind : Kind) (lines : List (List ℕ)) → length (digits_in kind lines) ≡ length lines
count kind lines = length-map (ids_of kind lines) id_digits ∙ length-map lines (id_of kind)

digits_are : (kind : Kind) (line : List ℕ) → IsIdLine (hex_len_of kind) line → id_digits (id_of kind line) ≡ line_values (hex_len_of kind) line
digits_are kind line is =
    made_digits kind (packed (line_values (hex_len_of kind) line)) ∙ packed_line (byte_len_of kind) (hex_len_of kind) line (hex_len_of-bytes kind) is

count_digits : (kind : Kind) (line : List ℕ) → IsIdLine (hex_len_of kind) line → length (id_digits (id_of kind line)) ≡ hex_len_of kind
count_digits kind line is = ap length (digits_are kind line is) ∙ length-map (take (hex_len_of kind) line) value_of ∙ length-letters (hex_len_of kind) line is

line_of_id : (kind : Kind) (line : List ℕ) → IsIdLine (hex_len_of kind) line → IsLineOfId (hex_len_of kind) line (id_of kind line)
line_of_id kind line is =
    let n = hex_len_of kind in
    record {
      feed = is.feed;
      reads = rw (length-letters n line is, line_reads (byte_len_of kind) n line (hex_len_of-bytes kind) is) (made_whole kind (packed (line_values n line)));
    }

are_lines : (kind : Kind) (repeats : Bool) (previous : List ℕ) (lines : List (List ℕ)) → AreSortedLines (hex_len_of kind) repeats previous lines
    → AreLinesOf (hex_len_of kind) lines (ids_of kind lines)
unfolding AreSortedLines
are_lines kind repeats previous [] h = tt
are_lines kind repeats previous (line ∷ lines) h = (line_of_id kind line h.0, are_lines kind repeats line lines h.2)

line_at : (n : ℕ) (repeats : Bool) (previous : List ℕ) (lines : List (List ℕ)) → AreSortedLines n repeats previous lines
    → (k : ℕ) → k < length lines → IsIdLine n (get_or lines k [])
unfolding AreSortedLines
line_at n repeats previous [] h k inside = absurd (omega arith)
line_at n repeats previous (line ∷ lines) h zero inside = h.0
line_at n repeats previous (line ∷ lines) h (suc k) inside = line_at n repeats line lines h.2 k (omega arith)

digits_at : (kind : Kind) (lines : List (List ℕ)) (k : ℕ) (d : List ℕ) → k < length lines → get_or (digits_in kind lines) k d ≡ id_digits (id_of kind (get_or lines k []))
digits_at kind lines k d inside =
    get_or-map id_digits (ids_of kind lines) k (id_of kind []) d (omega (arith, length-map lines (id_of kind)))
    ∙ ap id_digits (get_or-map (id_of kind) lines k [] (id_of kind []) inside)

follows_at : (kind : Kind) (repeats : Bool) (previous : List ℕ) (lines : List (List ℕ)) → AreSortedLines (hex_len_of kind) repeats previous lines
    → (k : ℕ) (d : List ℕ) → suc k < length lines
    → IsTrue (may_follow repeats (slice_cmp nat_cmp (get_or (digits_in kind lines) k d) (get_or (digits_in kind lines) (suc k) d)))
unfolding AreSortedLines
follows_at kind repeats previous [] h k d inside = absurd (omega arith)
follows_at kind repeats previous (line ∷ []) h k d inside = absurd (omega arith)
follows_at kind repeats previous (line ∷ (next ∷ lines)) h zero d inside = rw (digits_are kind line h.0, digits_are kind next h.2.0) h.2.1
follows_at kind repeats previous (line ∷ (next ∷ lines)) h (suc k) d inside = follows_at kind repeats line (next ∷ lines) h.2 k d (omega arith)

not_below : (o : Ordering) → is_le o ≡ true → is_lt (ordering_reverse o) ≡ false
not_below Less h = refl
not_below Equal h = refl
not_below Greater h = cc h

-- the ids are in order
in_order : (search : Search) (kind : Kind) (lines : List (List ℕ)) → TakesLength search (hex_len_of kind)
    → AreSortedLines (hex_len_of kind) (allows_repeats search) [] lines → IsUpTo search (length (digits_in kind lines)) (digits_in kind lines)
in_order (Sorted alphabet) kind lines takes h = λ k d low high.
    let ids = digits_in kind lines in
    let next : k + 1 ≡ suc k = omega arith in
    rw next
    (ap is_lt (nat_list_cmp_total.antisymm (get_or ids (suc k) d) (get_or ids k d))
    ∙ not_below (slice_cmp nat_cmp (get_or ids k d) (get_or ids (suc k) d)) (follows_at kind true [] lines h k d (omega (arith, high, count kind lines))))
in_order (In other) kind lines takes h = record {
  kinds = λ k d low high.
      let inside : k < length lines = omega (arith, high, count kind lines) in
      ap length (digits_at kind lines k d inside) ∙ count_digits kind (get_or lines k []) (line_at (hex_len_of kind) false [] lines h k inside) ∙ takes;
  rises = λ k d high.
      let next : k + 1 ≡ suc k = omega arith in
      rw next (less _ (follows_at kind false [] lines h k d (omega (arith, high, count kind lines))));
}

are_sorted : (search : Search) (ids : List (List ℕ)) → IsUpTo search (length ids) ids → IsSortedIds ids
are_sorted (Sorted alphabet) ids h = h
are_sorted (In kind) ids h = index-sorted kind ids h

no_error : (b : Bool) (error other : SearchError) → (if b then Some error else None) ≡ None → (if b then Some other else None) ≡ None
no_error true error other h = cc h
no_error false error other h = refl

-- the error of the first id after the one before it depends on no other id
late_any : (search : Search) (last : Option (List ℕ)) (number : ℕ) (id : List ℕ) (ids : List (List ℕ)) → error_of_first search 1 last (id ∷ []) ≡ None
    → error_of_first search number last (id ∷ ids) ≡ None
late_any search None number id ids h = refl
late_any (Sorted alphabet) (Some last) number id ids h = no_error _ (Unsorted 1) (Unsorted number) h
late_any (In kind) (Some last) number id ids h = no_error _ (NotRising 1) (NotRising number) h

-- the smallest number of digits
at_most : (kind : Kind) → hex_len_of kind ≤ 64
at_most Sha1 = omega arith
at_most Sha256 = omega arith

least_most : (kind : Kind) (repeats : Bool) (previous : List ℕ) (lines : List (List ℕ)) → AreSortedLines (hex_len_of kind) repeats previous lines
    → hex_len_of kind ≤ least_hex_len (digits_in kind lines)
unfolding AreSortedLines
least_most kind repeats previous [] h = at_most kind
least_most kind repeats previous (line ∷ lines) h = omega (arith, count_digits kind line h.0, least_most kind repeats line lines h.2)

least_is : (search : Search) (kind : Kind) (previous : List ℕ) (lines : List (List ℕ)) → AreSortedLines (hex_len_of kind) (allows_repeats search) previous lines
    → 0 < length lines → IsLeast search (hex_len_of kind) (digits_in kind lines)
unfolding AreSortedLines
least_is (In other) kind previous lines h some = tt
least_is (Sorted alphabet) kind previous [] h some = absurd (omega arith)
least_is (Sorted alphabet) kind previous (line ∷ lines) h some = omega (arith, count_digits kind line h.0, least_most kind true line lines h.2)

-- an id that is read from the letters of a line has the digits of that line
same_digits : (kind : Kind) (line : List ℕ) (found : ObjectId) → IsIdLine (hex_len_of kind) line
    → full_read hex_letter (take (hex_len_of kind) line) ≡ Ok (whole_of found) → id_digits found ≡ id_digits (id_of kind line)
same_digits kind line found is reads =
    let both : Ok (whole_of found) ≡ Ok (whole_of (id_of kind line)) = sym reads ∙ (line_of_id kind line is).reads in
    let whole : whole_of found ≡ whole_of (id_of kind line) = cc both in
    ap (λ (w : KindDigits). w.digits) whole

-- sorted lines of n letters can be skipped, if the prefix comes before the first id, or after the last
module _ (search : Search) (prefix : KindDigits) (last : Option (List ℕ)) (first end : ObjectId) where
  abbrev pub CanSkipIf : ℕ → List (List ℕ) → Type 0
  CanSkipIf n lines = AreSortedLines n (allows_repeats search) [] lines → 0 < length lines → TakesLength search n
      → full_read hex_letter (take n (get_or lines 0 [])) ≡ Ok (whole_of first)
      → full_read hex_letter (take n (get_or lines (length lines - 1) [])) ≡ Ok (whole_of end)
      → ((place prefix.digits (id_digits first) ≡ Less) ⊎ (place prefix.digits (id_digits end) ≡ Greater))
      → error_of_first search 1 last (id_digits first ∷ []) ≡ None → CanSkip search prefix.digits n last lines end

  can_skip_of : (kind : Kind) (lines : List (List ℕ)) → CanSkipIf (hex_len_of kind) lines
  can_skip_of kind [] = λ h some takes reads also outside late. absurd (omega arith)
  can_skip_of kind (line ∷ lines) = λ h some takes reads also outside late.
      let all = line ∷ lines in
      let n = hex_len_of kind in
      let at = length all - 1 in
      let repeats = allows_repeats search in
      let ids = ids_of kind all in
      let digits = digits_in kind all in
      let up_to = in_order search kind all takes h in
      let at_end : at < length all = omega arith in
      let first_is : id_digits first ≡ id_digits (id_of kind line) = same_digits kind line first (line_at n repeats [] all h 0 (omega arith)) reads in
      let end_is : id_digits end ≡ id_digits (id_of kind (get_or all at [])) = same_digits kind (get_or all at []) end (line_at n repeats [] all h at at_end) also in
      let there : get_or ids at (id_of kind []) ≡ id_of kind (get_or all at []) = get_or-map (id_of kind) all at [] (id_of kind []) at_end in
      let size : length digits ≡ length all = count kind all in
      record {
        ids = ids;
        each = are_lines kind repeats [] all h;
        is_last =
            ap Some (end_is ∙ ap id_digits (sym there))
            ∙ last_or-at ids last (id_of kind []) at (omega (arith, length-map all (id_of kind)));
        in_order = λ number.
            in_order_after search last number digits (rw first_is at (late_any search last number (id_digits first) (digits_in kind lines) late)) up_to;
        least = least_is search kind [] all h some;
        none = no_matches prefix digits (are_sorted search digits up_to) (omega (arith, size)) (elim outside [
          | inl before ↦ inl (rw first_is at before)
          | inr after ↦ inr (rw (size, digits_at kind all at [] at_end) (rw end_is at after))
        ]);
      }

  -- so they can, for a line of each length
  pub can_skip : (len : ℕ) → IsTrue (is_line_len len) → (lines : List (List ℕ)) → CanSkipIf (len - 1) lines
  can_skip len line lines = let of = kind_of_line len line in subst (λ n. CanSkipIf n lines) (sym of.1) (can_skip_of of.0 lines)
