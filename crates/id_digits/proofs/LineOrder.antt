-- Lines in order: by the numbers of their first eight digits, and if these are equal by the bytes that they read as.
use Rattle.id_digits.proofs.Std.{min, ◌≡◌, ℕ, zero, suc, ◌+◌, ◌-◌, ◌*◌, ◌/◌, ◌<◌, ◌≤◌, Bool, true, false, ◌&&◌, List, [], ◌∷◌, length, take, drop, get_or, refl, sym, ap, ap₂, ◌∙◌, arith, drop-cons, Less, Option, Some, None, if◌then◌else◌, All, IsTrue, nat_eq, nat_cmp, unwrap_or, nat_tests, nat_list_cmp_total, tied_itself, length-take, length-take-le, drop_all, All-nil, All-cons, All-take, list_all, slice_cmp, pointwise, bytes_decides, Ordering}
use Rattle.id_digits.specs.Digits.{digit_in, digits_of, digits_read, hex_letter, is_digest_len, word}
use Rattle.id_digits.specs.Letters.{AreSortedLines, IsIdLine, is_digit, is_line_len, lane_of, line_values, may_follow, value_of, values_of}
use Rattle.id_digits.proofs.DigitNumbers.{AreDigits, word-nil, word-take}
use Rattle.id_digits.proofs.DigitOrder.{slice_cmp-digits_of, take_less}
use Rattle.id_digits.proofs.LaneReading.{sixteen, tested, first_values, both_digits, digits_read-values}
use Rattle.id_digits.proofs.ReadingFacts.{digit_in-letter}
use Rattle.id_digits.proofs.Spellings.{All-digits_of}
use Rattle.id_digits.proofs.WordOrder.{slice_cmp-word}

-- a line has two letters for each byte of a digest, and a line feed
pub record IsLineOf (bytes len : ℕ) : Type 0 where
  pub digest : IsTrue (is_digest_len bytes)
  pub two : len - 1 ≡ 2 * bytes

pub line_of : (len : ℕ) → IsTrue (is_line_len len) → IsLineOf ((len - 1) / 2) len
line_of len is = record {
  digest = grind (arith, nat_tests, is);
  two = grind (arith, nat_tests, is);
}

-- the line before the one at an index, if there is one
abbrev pub line_before : List (List ℕ) → ℕ → List ℕ
line_before lines zero = []
line_before lines (suc k) = get_or lines k []

pub line_before-is : (lines : List (List ℕ)) (at : ℕ) → 0 < at → line_before lines at ≡ get_or lines (at - 1) []
line_before-is lines zero h = absurd (omega arith)
line_before-is lines (suc k) h = let same : suc k - 1 ≡ k = omega arith in rw same refl

-- a value is a byte
value-below : (c : ℕ) → value_of c < 256
value-below c = by (digit_in hex_letter c) refl
  where
    by : (d : Option ℕ) → digit_in hex_letter c ≡ d → unwrap_or d (16 + (lane_of c - 16)) < 256
    by None is = omega arith
    by (Some d) is = omega (arith, (digit_in-letter hex_letter c d is).digit)

values-below : (text : List ℕ) → All (λ b. b < 256) (values_of text)
values-below [] = All-nil (λ b. b < 256)
values-below (c ∷ text) = All-cons (λ b. b < 256) (value_of c) (values_of text) (value-below c) (values-below text)

-- digits are below others if the number of the first n is
word_less : (n : ℕ) (ds es : List ℕ) → AreDigits ds → AreDigits es → nat_cmp (word n ds) (word n es) ≡ Less → slice_cmp nat_cmp ds es ≡ Less
word_less n ds es f g h =
    let small = All-take (λ (d : ℕ). d < 16) n in
    let whole = slice_cmp-word n (take n ds) (take n es) (small ds f) (small es g) (omega (arith, length-take n ds)) (omega (arith, length-take n es)) in
    take_less n ds es (sym whole ∙ rw (word-take n ds, word-take n es, h) refl)

-- an id that is above another may follow it
less_follows : (repeats : Bool) (order : Ordering) → order ≡ Less → IsTrue (may_follow repeats order)
less_follows true order is = rw is refl
less_follows false order is = rw is refl

-- two texts that read as bytes compare as these do
pub read_order : (repeats : Bool) (previous text one other : List ℕ) (reads also : Bool)
    → digits_read hex_letter previous ≡ (if reads then Some (digits_of one) else None) → digits_read hex_letter text ≡ (if also then Some (digits_of other) else None)
    → reads ≡ true → also ≡ true
    → IsTrue (may_follow repeats (slice_cmp nat_cmp (digits_of one) (digits_of other))) → IsTrue (may_follow repeats (slice_cmp nat_cmp (values_of previous) (values_of text)))
read_order repeats previous text one other reads also is are whole complete h =
    rw (values previous one (is ∙ rw whole refl), values text other (are ∙ rw complete refl)) h
  where
    values : (text bytes : List ℕ) → digits_read hex_letter text ≡ Some (digits_of bytes) → values_of text ≡ digits_of bytes
    values text bytes is = by (list_all is_digit (values_of text)) (sym (digits_read-values text) ∙ is)
      where
        by : (b : Bool) → (if b then Some (values_of text) else None) ≡ Some (digits_of bytes) → values_of text ≡ digits_of bytes
        by true e = cc e
        by false e = cc e

-- the number of the first eight digits of a line
abbrev pub line_word : ℕ → List ℕ → ℕ
line_word len line = word 16 (digits_of (values_of (take 16 (take (len - 1) line))))

no_values : (n : ℕ) → values_of (take 16 (take n [])) ≡ []
no_values zero = refl
no_values (suc n) = refl

-- of no line it is zero
pub word_none : (len : ℕ) → 0 ≡ line_word len []
unfolding digits_of
word_none len = rw (no_values (len - 1)) (sym (word-nil 16))

-- a text may follow another if the number of its first n digits, of those of its first sixteen letters, is greater
pub word_follows : (n : ℕ) (repeats : Bool) (previous text : List ℕ) (w v : ℕ)
    → w ≡ word n (digits_of (values_of (take 16 previous))) → v ≡ word n (digits_of (values_of (take 16 text))) → w < v
    → IsTrue (may_follow repeats (slice_cmp nat_cmp (values_of previous) (values_of text)))
word_follows n repeats previous text w v is also less =
    let one = values_of (take 16 previous) in
    let other = values_of (take 16 text) in
    let lower : word n (digits_of one) < word n (digits_of other) = omega (arith, is, also, less) in
    let words : nat_cmp (word n (digits_of one)) (word n (digits_of other)) ≡ Less = grind (arith, nat_tests, lower) in
    less_follows repeats _
    (take_less 16 (values_of previous) (values_of text)
    (ap₂ (slice_cmp nat_cmp) (sym (sixteen 0 previous)) (sym (sixteen 0 text)) ∙ sym (slice_cmp-digits_of one other)
    ∙ word_less n (digits_of one) (digits_of other) (All-digits_of one (values-below (take 16 previous))) (All-digits_of other (values-below (take 16 text))) words))

-- and if it is the same, where ids may be repeated
pub same_follows : (previous text : List ℕ) → IsTrue (pointwise nat_eq previous text) → IsTrue (may_follow true (slice_cmp nat_cmp (values_of previous) (values_of text)))
same_follows previous text same = rw ((bytes_decides previous text).0 same, tied_itself nat_list_cmp_total (values_of text)) refl

-- what the vectors test are all letters of a line
pub letters_tested : (bytes len : ℕ) → IsLineOf bytes len → (line first second third last : List ℕ) (from end : ℕ) → len - 1 ≤ length line → end ≡ len - 1 - 16 → from ≡ min end 32
    → first ≡ values_of (take 16 (take (len - 1) line)) → second ≡ values_of (take 16 (drop 16 (take (len - 1) line)))
    → third ≡ values_of (take 16 (drop from (take (len - 1) line))) → last ≡ values_of (take 16 (drop end (take (len - 1) line)))
    → ((list_all is_digit first && list_all is_digit second) && (list_all is_digit third && list_all is_digit last)) ≡ list_all is_digit (line_values (len - 1) line)
letters_tested bytes len is_line line first second third last from end size ends froms is also thirds lasts =
    let text = take (len - 1) line in
    let long : length text ≡ len - 1 = length-take-le (len - 1) line size in
    let at_end : end ≡ length text - 16 = omega (arith, long, ends) in
    let at_third : from ≡ min (length text - 16) 32 = froms ∙ ap (λ k. min k 32) at_end in
    tested bytes text third last is_line.digest (long ∙ is_line.two) (thirds ∙ ap (λ k. values_of (take 16 (drop k text))) at_third)
    (lasts ∙ ap (λ k. values_of (take 16 (drop k text))) at_end) (list_all is_digit first && list_all is_digit second)
    (both_digits is_digit first second _ (first_values text first second is also))

-- one line more
pub one_more : (n : ℕ) (repeats : Bool) (lines : List (List ℕ)) (at : ℕ) → at < length lines → IsIdLine n (get_or lines at [])
    → IsTrue (may_follow repeats (slice_cmp nat_cmp (line_values n (line_before lines at)) (line_values n (get_or lines at []))))
    → (AreSortedLines n repeats (line_before lines at) (drop at lines) → AreSortedLines n repeats [] lines)
    → AreSortedLines n repeats (line_before lines (at + 1)) (drop (at + 1) lines) → AreSortedLines n repeats [] lines
unfolding AreSortedLines
one_more n repeats lines at inside line follows sorted more =
    let next : at + 1 ≡ suc at = omega arith in
    sorted (rw (drop-cons lines at [] inside) (line, follows, rw next at more))

-- and none more
pub none_left : (n : ℕ) (repeats : Bool) (lines : List (List ℕ)) (at : ℕ) → length lines ≤ at
    → (AreSortedLines n repeats (line_before lines at) (drop at lines) → AreSortedLines n repeats [] lines) → AreSortedLines n repeats [] lines
unfolding AreSortedLines
none_left n repeats lines at past sorted = sorted (rw (drop_all at lines past) tt)
