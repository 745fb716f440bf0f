-- What the crate `hex` decodes is what the definition of reading gives.
use Rattle.id_digits.proofs.Std.{◌≡◌, ℕ, ◌+◌, ◌*◌, ◌/◌, ◌%◌, ◌<◌, List, [], ◌∷◌, length, refl, sym, arith, Option, Some, None, Result, Ok, Err, if◌then◌else◌, MatchResult, is_ok, to_ascii_lowercase, nat_tests}
use Rattle.hex.specs.Hex.{hex_digit_value, digit_or_error, decode_pairs, decode_sized, ◌>>=◌}
use Rattle.hex.proofs.Pairs.{decode_sized-pairs}
use Rattle.hex.specs.declared.error.FromHexError.{FromHexError}
use Rattle.id_digits.specs.Digits.{IsLetterOf, digit_in, digits_of, digits_read, hex_letter, put_digit}
use Rattle.id_digits.proofs.ReadingFacts.{hex_alphabet, digit_in-is, digit_in-letter, same_found}

-- the digit of a letter, as `hex` finds it, has that letter
hex_value-letter : (c d : ℕ) → hex_digit_value c ≡ Some d → IsLetterOf hex_letter c d
hex_value-letter c d h = record {
  digit = grind (arith, nat_tests);
  same_letter = grind (arith, nat_tests);
}

-- and the digit that has the letter is the one that `hex` finds
hex_value-is : (c d : ℕ) → d < 16 → hex_letter d ≡ to_ascii_lowercase c → hex_digit_value c ≡ Some d
hex_value-is c d lt h = grind (arith, nat_tests)

-- so `hex` finds the digit of a letter
digit_in-hex : (c : ℕ) → digit_in hex_letter c ≡ hex_digit_value c
digit_in-hex c = same_found _ _
    (λ d e. let is = digit_in-letter hex_letter c d e in hex_value-is c d is.digit (sym is.same_letter))
    (λ d e. digit_in-is hex_letter hex_alphabet c d (hex_value-letter c d e))

-- the digits of what was decoded
abbrev pub decoded_digits : Result (List ℕ) FromHexError → Option (List ℕ)
decoded_digits (Ok bytes) = Some (digits_of bytes)
decoded_digits (Err e) = None

-- one byte of two digits, before what is decoded after it
decoded_pair : (high low : Option ℕ) (more : Result (List ℕ) FromHexError) (a b i : ℕ)
    → ((l : ℕ) → low ≡ Some l → l < 16)
    → decoded_digits ((digit_or_error a i high >>= (λ h. digit_or_error b (i + 1) low >>= (λ l. Ok (h * 16 + l)))) >>= (λ byte. more >>= (λ bytes. Ok (byte ∷ bytes))))
    ≡ put_digit high (put_digit low (decoded_digits more))
unfolding digits_of
decoded_pair None low more a b i fits = refl
decoded_pair (Some h) None more a b i fits = refl
decoded_pair (Some h) (Some l) (Err e) a b i fits = refl
decoded_pair (Some h) (Some l) (Ok bytes) a b i fits =
    let small = fits l refl in
    let first : (h * 16 + l) / 16 ≡ h = omega arith in
    let second : (h * 16 + l) % 16 ≡ l = omega arith in
    rw (first, second) refl

-- a text of even length decodes to bytes with the digits that it reads as
pub decoded_digits-decode_pairs : (i : ℕ) (text : List ℕ) → length text % 2 ≡ 0
    → decoded_digits (decode_pairs i text) ≡ digits_read hex_letter text
unfolding decode_pairs digits_read digits_of
decoded_digits-decode_pairs i [] even = refl
decoded_digits-decode_pairs i (a ∷ []) even = absurd (omega arith)
decoded_digits-decode_pairs i (a ∷ (b ∷ rest)) even =
    let less : length rest % 2 ≡ 0 = omega arith in
    let more = decoded_digits-decode_pairs (i + 2) rest less in
    let fits = λ (l : ℕ) (h : hex_digit_value b ≡ Some l). (hex_value-letter b l h).digit in
    rw (digit_in-hex a, digit_in-hex b, ← more) (decoded_pair (hex_digit_value a) (hex_digit_value b) (decode_pairs (i + 2) rest) a b i fits)

-- the digits that the text reads as, from what `hex` returned and left in `out`
pub digits_read-decoded : (text out : List ℕ) (n : ℕ) (answer : Result (Unit {0}) FromHexError) → length text ≡ 2 * n
    → MatchResult (decode_sized text n) (λ bytes. (answer ≡ Ok tt) × (out ≡ bytes)) (λ e. answer ≡ Err e)
    → digits_read hex_letter text ≡ (if is_ok answer then Some (digits_of out) else None)
digits_read-decoded text out n answer len gave =
    let even : length text % 2 ≡ 0 = omega arith in
    let half : length text / 2 ≡ n = omega arith in
    by_cases (decode_pairs 0 text) (decoded_digits-decode_pairs 0 text even) (rw (decode_sized-pairs text n even half) at gave)
  where
    by_cases : (decoded : Result (List ℕ) FromHexError) → decoded_digits decoded ≡ digits_read hex_letter text
        → MatchResult decoded (λ bytes. (answer ≡ Ok tt) × (out ≡ bytes)) (λ e. answer ≡ Err e)
        → digits_read hex_letter text ≡ (if is_ok answer then Some (digits_of out) else None)
    by_cases (Ok bytes) read h = rw (h.0, h.1) (sym read)
    by_cases (Err e) read h = rw h (sym read)
