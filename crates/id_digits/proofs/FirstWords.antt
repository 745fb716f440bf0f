-- Digests compare as the numbers of their first sixteen digits do, and then as the rest of their bytes.
use Rattle.id_digits.proofs.Std.{◌≡◌, ℕ, zero, suc, ◌^◌, ◌<◌, ◌≤◌, ◌-◌, List, [], ◌∷◌, length, take, drop, Ordering, Less, Equal, Greater, true, false, refl, sym, ◌∙◌, arith, All, IsTrue, take_all, length-drop, nat_cmp, ordering_then, is_eq, slice_cmp, nat_tests, All-tail}
use Rattle.id_digits.specs.Digits.{digits_of, is_digest_len, word}
use Rattle.id_digits.proofs.DigitNumbers.{AreDigits, word-zero, word-cons, word_lt}
use Rattle.id_digits.proofs.DigitOrder.{slice_cmp-digits_of}
use Rattle.id_digits.proofs.NumberParts.{then_assoc, then_decided, cmp_parts}
use Rattle.id_digits.proofs.ByteDigits.{length-digits_of, drop-digits_of}
use Rattle.id_digits.proofs.Spellings.{All-digits_of}

-- lists of digits compare as the numbers of their first n digits do, and then as the rest
cmp_words : (n : ℕ) (ds es : List ℕ) → n ≤ length ds → n ≤ length es → AreDigits ds → AreDigits es
    → ordering_then (nat_cmp (word n ds) (word n es)) (slice_cmp nat_cmp (drop n ds) (drop n es)) ≡ slice_cmp nat_cmp ds es
cmp_words zero ds es h k f g = rw (word-zero ds, word-zero es) refl
cmp_words (suc n) [] es h k f g = absurd (omega arith)
cmp_words (suc n) (d ∷ ds) [] h k f g = absurd (omega arith)
cmp_words (suc n) (d ∷ ds) (e ∷ es) h k f g =
    let first = All-tail (λ (x : ℕ). x < 16) d ds f in
    let second = All-tail (λ (x : ℕ). x < 16) e es g in
    let parts = cmp_parts (16 ^ n) d (word n ds) e (word n es) (word_lt n ds first) (word_lt n es second) in
    rw (word-cons n d ds, word-cons n e es, parts, then_assoc, cmp_words n ds es (omega arith) (omega arith) first second) refl

-- the second order decides if the first ties
then_follows : (o p : Ordering) → is_eq o ≡ true → ordering_then o p ≡ p
then_follows Less p h = cc h
then_follows Equal p h = refl
then_follows Greater p h = cc h

-- two digests, and how their first eight bytes compare
module _ (xs ys : List ℕ) (long : IsTrue (is_digest_len (length xs))) (also : IsTrue (is_digest_len (length ys)))
    (fits : All (λ b. b < 256) xs) (fit : All (λ b. b < 256) ys)
    (order : Ordering) (first : order ≡ nat_cmp (word 16 (digits_of xs)) (word 16 (digits_of ys))) where
  sixteen : (bytes : List ℕ) → IsTrue (is_digest_len (length bytes)) → 16 ≤ length (digits_of bytes)
  sixteen bytes digest = let count = length-digits_of bytes in grind (arith, nat_tests, digest, count)

  by_words : ordering_then order (slice_cmp nat_cmp (drop 8 xs) (drop 8 ys)) ≡ slice_cmp nat_cmp (digits_of xs) (digits_of ys)
  by_words =
      rw (first, ← slice_cmp-digits_of (drop 8 xs) (drop 8 ys), ← drop-digits_of 8 xs, ← drop-digits_of 8 ys)
      (cmp_words 16 (digits_of xs) (digits_of ys) (sixteen xs long) (sixteen ys also) (All-digits_of xs fits) (All-digits_of ys fit))

  -- their digits compare as the rest of the bytes, if the words are equal
  pub tied_words : (rest : Ordering) → is_eq order ≡ true → rest ≡ slice_cmp nat_cmp (take (length xs - 8) (drop 8 xs)) (take (length ys - 8) (drop 8 ys))
      → rest ≡ slice_cmp nat_cmp (digits_of xs) (digits_of ys)
  tied_words rest tied is =
      let all = λ (l : List ℕ). take_all (length l - 8) (drop 8 l) (omega (arith, length-drop 8 l)) in
      rw (all xs, all ys) at is ∙ sym (then_follows order (slice_cmp nat_cmp (drop 8 xs) (drop 8 ys)) tied) ∙ by_words

  -- and as the words, if they are not
  pub untied_words : is_eq order ≡ false → order ≡ slice_cmp nat_cmp (digits_of xs) (digits_of ys)
  untied_words untied = sym (then_decided order (slice_cmp nat_cmp (drop 8 xs) (drop 8 ys)) (λ ties. cc (rw ties at untied))) ∙ by_words
