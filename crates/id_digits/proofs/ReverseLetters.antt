-- The reverse alphabet through hex letters: reading and spelling.
use Rattle.id_digits.proofs.Std.{◌≡◌, ℕ, ◌+◌, ◌<◌, List, [], ◌∷◌, ◌++◌, length, map, take, drop, get_or, slice_set, refl, sym, arith, All, to_ascii_lowercase, nat_tests, get_or_default, map_over_more, All-head, All-tail}
use Rattle.id_digits.specs.Letters.{hex_of_reverse, reverse_of_hex}
use Rattle.id_digits.specs.Digits.{digit_in, digits_read, hex_letter, reverse_letter, spelling}
use Rattle.id_digits.proofs.ReadingFacts.{IsAlphabet, hex_alphabet, digit_in-is, digit_in-letter, same_found}

-- the reverse letters are distinct
pub reverse_alphabet : IsAlphabet reverse_letter
reverse_alphabet = record { distinct = λ d e h g same. omega arith }

-- one step of replacing letters
pub replaced_more : (f : ℕ → ℕ) (xs ys : List ℕ) (i y : ℕ) → i < length xs → i < length ys → ys ≡ map f (take i xs) ++ drop i xs
    → y ≡ f (get_or ys i 0) → slice_set ys i y ≡ map f (take (i + 1) xs) ++ drop (i + 1) xs
replaced_more f xs ys i y within there inv is =
    rw is (map_over_more f xs ys i (get_or ys i 0) within inv (get_or_default ys i 0 (get_or ys i 0) there))

-- the hex letter for a reverse letter has its digit
to_hex : (c d : ℕ) → d < 16 → reverse_letter d ≡ to_ascii_lowercase c → hex_letter d ≡ to_ascii_lowercase (hex_of_reverse c)
to_hex c d lt h = grind (arith, nat_tests)

-- and no other byte becomes a hex letter
from_hex : (c d : ℕ) → d < 16 → hex_letter d ≡ to_ascii_lowercase (hex_of_reverse c) → reverse_letter d ≡ to_ascii_lowercase c
from_hex c d lt h = grind (arith, nat_tests)

-- so the same digit is found for both
found_in_hex : (c : ℕ) → digit_in hex_letter (hex_of_reverse c) ≡ digit_in reverse_letter c
found_in_hex c = same_found _ _
    (λ d e.
    let is = digit_in-letter hex_letter (hex_of_reverse c) d e in
    digit_in-is reverse_letter reverse_alphabet c d (record { digit = is.digit; same_letter = sym (from_hex c d is.digit (sym is.same_letter)) }))
    (λ d e.
    let is = digit_in-letter reverse_letter c d e in
    digit_in-is hex_letter hex_alphabet (hex_of_reverse c) d (record { digit = is.digit; same_letter = sym (to_hex c d is.digit (sym is.same_letter)) }))

-- the hex letters for reverse letters read as the same digits
pub digits_of_reverse : (text : List ℕ) → digits_read hex_letter (map hex_of_reverse text) ≡ digits_read reverse_letter text
unfolding digits_read
digits_of_reverse [] = refl
digits_of_reverse (c ∷ text) = rw (found_in_hex c, digits_of_reverse text) refl

-- the reverse letter for a digit's hex letter is the digit's
letter_for : (d : ℕ) → d < 16 → reverse_of_hex (hex_letter d) ≡ reverse_letter d
letter_for d lt = grind (arith, nat_tests)

-- the reverse letters for a hex spelling are the reverse spelling
pub spelling-reverse_of_hex : (ds : List ℕ) → All (λ d. d < 16) ds → map reverse_of_hex (spelling hex_letter ds) ≡ spelling reverse_letter ds
spelling-reverse_of_hex [] h = refl
spelling-reverse_of_hex (d ∷ ds) h =
    rw (letter_for d (All-head (λ (x : ℕ). x < 16) d ds h), spelling-reverse_of_hex ds (All-tail (λ (x : ℕ). x < 16) d ds h)) refl
