-- A text read as the values of its letters, of which the first are packed, and the last.
use Rattle.id_digits.proofs.Std.{◌≡◌, ℕ, zero, suc, ◌+◌, ◌-◌, ◌*◌, ◌≤◌, ◌⊎◌, inl, inr, Bool, true, false, ◌&&◌, ltb, min, List, [], ◌∷◌, ◌++◌, length, take, drop, Option, Some, None, if◌then◌else◌, refl, sym, ap, ap₂, ◌∙◌, arith, append-nil, append_assoc, length-drop, take-add, IsTrue, cases_eq, ne_eqb, nat_tests, nil_from_length, length-map, length-take-le, take_all, take_at, drop_at, take-map, drop-map, drop-drop, take-append-drop, list_all-append, put_chunk_is, length-put_chunk, list_all, put_chunk}
use borrow.Rule.Slice.PartMut.{post_of}
use Rattle.id_digits.specs.Digits.{digit_in, digits_of, digits_read, hex_letter, is_digest_len, put_digit}
use Rattle.id_digits.specs.Letters.{lane_of, value_of, values_of, is_digit, packed}
use Rattle.id_digits.proofs.ReadingFacts.{digit_in-letter}
use Rattle.id_digits.proofs.LanePacking.{length-packed, digits_of-packed, packed-take, packed-drop}

-- values that are all digits, and none if one is not
abbrev all_digits : List ℕ → Option (List ℕ)
all_digits values = if list_all is_digit values then Some values else None

-- one letter before others
put_value : (c : ℕ) (found : Option ℕ) (values : List ℕ) → digit_in hex_letter c ≡ found
    → put_digit found (all_digits values) ≡ all_digits (value_of c ∷ values)
put_value c None values h =
    let large : ltb (16 + (lane_of c - 16)) 16 ≡ false = grind (arith, nat_tests) in
    rw (h, large) refl
put_value c (Some d) values h =
    let small : ltb d 16 ≡ true = grind (arith, nat_tests, (digit_in-letter hex_letter c d h).digit) in
    rw (h, small) (go (list_all is_digit values))
  where
    go : (b : Bool) → put_digit (Some d) (if b then Some values else None) ≡ (if b then Some (d ∷ values) else None)
    go true = refl
    go false = refl

-- a text reads as the values of its letters, if all of them are digits
pub digits_read-values : (text : List ℕ) → digits_read hex_letter text ≡ all_digits (values_of text)
unfolding digits_read
digits_read-values [] = refl
digits_read-values (c ∷ text) = rw (digits_read-values text) (put_value c (digit_in hex_letter c) (values_of text) refl)

-- all pass a test if all of the first do and all of the last, and the two overlap
absorbed : (p : ℕ → Bool) (n : ℕ) (xs : List ℕ) → (list_all p (take n xs) && list_all p xs) ≡ list_all p xs
absorbed p zero xs = refl
absorbed p (suc n) [] = refl
absorbed p (suc n) (x ∷ xs) = once (p x) _ _ (absorbed p n xs)
  where
    once : (b a r : Bool) → (a && r) ≡ r → ((b && a) && (b && r)) ≡ (b && r)
    once true a r e = e
    once false a r e = refl

all-overlapped : (p : ℕ → Bool) (m n : ℕ) (xs : List ℕ) → m ≤ n → (list_all p (take n xs) && list_all p (drop m xs)) ≡ list_all p xs
all-overlapped p zero n xs h = absorbed p n xs
all-overlapped p (suc m) zero xs h = absurd (omega arith)
all-overlapped p (suc m) (suc n) [] h = refl
all-overlapped p (suc m) (suc n) (x ∷ xs) h = step (p x) _ _ _ (all-overlapped p m n xs (omega arith))
  where
    step : (b a r s : Bool) → (a && r) ≡ s → ((b && a) && r) ≡ (b && s)
    step true a r s e = e
    step false a r s e = refl

-- sixteen bytes stored at an index
stored_at : (at : ℕ) (buffer lanes : List ℕ) → length lanes ≡ 16 → at + 16 ≤ length buffer
    → put_chunk at buffer lanes ≡ take at buffer ++ lanes ++ drop (at + 16) buffer
stored_at at buffer lanes long room =
    put_chunk_is at buffer lanes (omega arith)
    ∙ rw (long, drop-drop 16 at buffer) (sym (append_assoc (take at buffer) lanes (drop (at + 16) buffer)))

-- lanes stored after the first sixteen bytes, without those that the first sixteen hold
pub rest_stored : (n : ℕ) (old lanes : List ℕ) → length lanes ≡ 16 → length old ≡ n → 16 ≤ n → n ≤ 32
    → take 16 old ++ (take (16 - (32 - n)) (drop (32 - n) lanes) ++ post_of 16 (n - 16) old) ≡ take 16 old ++ drop (32 - n) lanes
rest_stored n old lanes many long least most =
    let all : take (16 - (32 - n)) (drop (32 - n) lanes) ≡ drop (32 - n) lanes = take_all _ _ (omega (arith, length-drop (32 - n) lanes)) in
    let none : post_of 16 (n - 16) old ≡ [] = nil_from_length _ (omega (arith, length-drop (n - 16) (drop 16 old), length-drop 16 old)) in
    rw (all, none) (ap (λ l. take 16 old ++ l) (append-nil (drop (32 - n) lanes)))

-- the values of sixteen letters
pub sixteen : (i : ℕ) (text : List ℕ) → values_of (take 16 (drop i text)) ≡ take 16 (drop i (values_of text))
sixteen i text = sym (take-map value_of 16 (drop i text)) ∙ ap (take 16) (sym (drop-map value_of i text))

-- and of the first thirty-two
pub first_values : (text first second : List ℕ) → first ≡ values_of (take 16 text) → second ≡ values_of (take 16 (drop 16 text))
    → first ++ second ≡ take 32 (values_of text)
first_values text first second is also =
    ap₂ (λ a b. a ++ b) (is ∙ sixteen 0 text) (also ∙ sixteen 16 text) ∙ sym (take-add 16 16 (values_of text))

-- if both of two lists are digits, so are they together
pub both_digits : (p : ℕ → Bool) (xs ys all : List ℕ) → xs ++ ys ≡ all → (list_all p xs && list_all p ys) ≡ list_all p all
both_digits p xs ys all is = sym (list_all-append p xs ys) ∙ ap (list_all p) is

-- a digest has at least twenty bytes
pub least : (n : ℕ) → IsTrue (is_digest_len n) → 20 ≤ n
least n digest = grind (arith, nat_tests, digest)

once : (b : Bool) → (b && b) ≡ b
once true = refl
once false = refl

-- a text of 40 letters or 64, of which the first thirty-two were read, and then the rest: of 40 letters the last sixteen, twice
module _ (n : ℕ) (text third last : List ℕ) (digest : IsTrue (is_digest_len n)) (two : length text ≡ 2 * n)
    (of_third : third ≡ values_of (take 16 (drop (min (length text - 16) 32) text))) (of_last : last ≡ values_of (take 16 (drop (length text - 16) text))) where
  abbrev pub values : List ℕ
  values = values_of text

  count : length values ≡ 2 * n
  count = length-map text value_of ∙ two

  -- the last of 40
  last_of_40 : (from : ℕ) (lanes : List ℕ) → n ≡ 20 → from ≡ 24 → lanes ≡ values_of (take 16 (drop from text)) → lanes ≡ drop 24 values
  last_of_40 from lanes is there of =
      of ∙ sixteen from text ∙ ap (λ k. take 16 (drop k values)) there ∙ take_all 16 (drop 24 values) (omega (arith, length-drop 24 values, count))

  -- the last two of 64
  last_of_64 : n ≡ 32 → third ++ last ≡ drop 32 values
  last_of_64 is =
      let from : min (length text - 16) 32 ≡ 32 = omega arith in
      let end : length text - 16 ≡ 48 = omega arith in
      ap₂ (λ a b. a ++ b) (of_third ∙ sixteen _ text ∙ ap (λ k. take 16 (drop k values)) from)
      (of_last ∙ sixteen _ text ∙ ap (λ k. take 16 (drop k values)) end ∙ ap (take 16) (sym (drop-drop 16 32 values)))
      ∙ sym (take-add 16 16 (drop 32 values)) ∙ take_all 32 (drop 32 values) (omega (arith, length-drop 32 values, count))

  -- a digest has twenty bytes, and both vectors hold the same values, or thirty-two
  by_len : ((n ≡ 20) × (third ≡ drop 24 values) × (last ≡ drop 24 values)) ⊎ (n ≡ 32)
  by_len = elim (cases_eq n 20) [
    | inl short ↦
        let from : min (length text - 16) 32 ≡ 24 = omega arith in
        let end : length text - 16 ≡ 24 = omega arith in
        inl (short, last_of_40 _ third short from of_third, last_of_40 _ last short end of_last)
    | inr other ↦ inr (grind (arith, nat_tests, digest, ne_eqb n 20 other))
  ]

  -- all are digits if the first thirty-two are and the rest
  pub tested : (front : Bool) → front ≡ list_all is_digit (take 32 values) → (front && (list_all is_digit third && list_all is_digit last)) ≡ list_all is_digit values
  tested front is = elim by_len [
    | inl short ↦
        ap₂ (λ a b. a && b) is (ap₂ (λ a b. list_all is_digit a && list_all is_digit b) short.1 short.2 ∙ once (list_all is_digit (drop 24 values)))
        ∙ all-overlapped is_digit 24 32 values (omega arith)
    | inr long ↦
        ap₂ (λ a b. a && b) is (both_digits is_digit third last (drop 32 values) (last_of_64 long)) ∙ all-overlapped is_digit 32 32 values (omega arith)
  ]

  -- and the last bytes are packed of the rest
  pub packed_rest : drop (32 - n) (packed (third ++ last)) ≡ drop 16 (packed values)
  packed_rest = elim by_len [
    | inl short ↦
        let cut : 32 - n ≡ 12 = omega (arith, short.0) in
        let wide : length third ≡ 16 = ap length short.1 ∙ omega (arith, short.0, length-drop 24 values, count) in
        ap (λ k. drop k (packed (third ++ last))) cut ∙ sym (packed-drop 12 (third ++ last))
        ∙ ap packed (sym (drop-drop 8 16 (third ++ last)) ∙ ap (drop 8) (drop_at third last 16 wide ∙ short.2) ∙ drop-drop 8 24 values)
        ∙ packed-drop 16 values
    | inr long ↦
        let cut : 32 - n ≡ 0 = omega arith in
        ap (λ k. drop k (packed (third ++ last))) cut ∙ ap packed (last_of_64 long) ∙ packed-drop 16 values
  ]

  -- what was stored is packed of all values
  pub stored : (old first front_bytes bytes : List ℕ) → length old ≡ n → first ≡ take 32 values → front_bytes ≡ packed first
      → bytes ≡ take 16 (put_chunk 0 old front_bytes) ++ drop (32 - length (put_chunk 0 old front_bytes)) (packed (third ++ last)) → bytes ≡ packed values
  stored old first front_bytes bytes size is packs are =
      let least : 16 ≤ n = grind (arith, nat_tests, digest) in
      let whole = packed values in
      let long : length whole ≡ n = length-packed n values count in
      let front : front_bytes ≡ take 16 whole = packs ∙ ap packed is ∙ packed-take 16 values in
      let wide : length front_bytes ≡ 16 = ap length front ∙ length-take-le 16 whole (omega arith) in
      let kept : take 16 (put_chunk 0 old front_bytes) ≡ take 16 whole =
      ap (take 16) (stored_at 0 old front_bytes wide (omega arith)) ∙ take_at front_bytes (drop 16 old) 16 wide ∙ front in
      let shared : 32 - length (put_chunk 0 old front_bytes) ≡ 32 - n = omega (arith, length-put_chunk 0 old front_bytes) in
      are ∙ ap₂ (λ a b. a ++ b) kept (ap (λ k. drop k (packed (third ++ last))) shared ∙ packed_rest) ∙ take-append-drop 16 whole

-- a text reads as the digits of the bytes that are packed of its values, if all of these are digits
pub read_values : (n : ℕ) (text bytes : List ℕ) (all : Bool) → length text ≡ 2 * n → all ≡ list_all is_digit (values_of text) → bytes ≡ packed (values_of text)
    → digits_read hex_letter text ≡ (if all then Some (digits_of bytes) else None)
read_values n text bytes all two tests is = digits_read-values text ∙ by (list_all is_digit (values_of text)) refl all tests
  where
    by : (b : Bool) → list_all is_digit (values_of text) ≡ b → (all : Bool) → all ≡ list_all is_digit (values_of text)
        → all_digits (values_of text) ≡ (if all then Some (digits_of bytes) else None)
    by true reads all tests =
        rw (tests, reads, is) (ap Some (sym (digits_of-packed n (values_of text) (length-map text value_of ∙ two) reads)))
    by false reads all tests = rw (tests, reads) refl
