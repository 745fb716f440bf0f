-- Digits of bytes: how they are spelled, read and compared, and the lengths of digests.
use Rattle.std.specs.Prelude.{[], ℕ, ◌%◌, ◌*◌, ◌++◌, ◌+◌, ◌-◌, ◌/◌, ◌<◌, ◌==◌, ◌^◌, ◌||◌, ◌∷◌, ◌≡◌, Bool, List, None, Option, Some, drop, if◌then◌else◌, length, map, nat_lt, replicate, slice_index, suc, take, zero}
use Rattle.std.specs.Char.{to_ascii_lowercase}
use Rattle.std.specs.Cmp.Lexicographic.{slice_cmp}
use Rattle.std.specs.List.{AllZip}
use Rattle.std.specs.Ordering.{nat_cmp}
use Rattle.std.specs.declared.cmp.Ordering.{Ordering}
use Rattle.id_digits.specs.declared.words.Words.{Words}

-- the digits of bytes: two a byte, the high half first
unfoldable pub digits_of : List ℕ → List ℕ
digits_of [] = []
digits_of (b ∷ bytes) = (b / 16) ∷ (b % 16) ∷ digits_of bytes

-- the letter of a digit in `0123456789abcdef`. Distinct numbers have distinct letters, also from 16 on
abbrev pub hex_letter : ℕ → ℕ
hex_letter d = if nat_lt d 10 then d + 48 else d + 87

-- the letter of a digit in `zyxwvutsrqponmlk`, in which Jujutsu spells change ids
abbrev pub reverse_letter : ℕ → ℕ
reverse_letter d = 122 - d

-- a list of digits written in an alphabet, a letter a digit
abbrev pub spelling : (ℕ → ℕ) → List ℕ → List ℕ
spelling letter digits = map letter digits

-- c is the letter of the digit d, in either case
pub record IsLetterOf (letter : ℕ → ℕ) (c d : ℕ) : Type 0 where
  pub digit : d < 16
  pub same_letter : to_ascii_lowercase c ≡ letter d

-- the text reads as the digits: as long, and each byte is its digit's letter in either case
abbrev pub ReadsAs : (ℕ → ℕ) → List ℕ → List ℕ → Type 0
ReadsAs letter text digits = AllZip (IsLetterOf letter) text digits

-- no list of digits reads the text
abbrev pub IsUnreadable : (ℕ → ℕ) → List ℕ → Type 0
IsUnreadable letter text = (digits : List ℕ) → ¬ ReadsAs letter text digits

-- the first byte of digits: the first two of them
abbrev pub first_byte_of : List ℕ → ℕ
first_byte_of digits = 16 * slice_index digits 0 + slice_index digits 1

-- Reading as a function: the one list of digits that a text reads as.

-- the digit below n whose letter c is, in either case
unfoldable pub digit_below : (ℕ → ℕ) → ℕ → ℕ → Option ℕ
digit_below letter c zero = None
digit_below letter c (suc n) = if letter n == to_ascii_lowercase c then Some n else digit_below letter c n

-- the digit whose letter c is, in either case
abbrev pub digit_in : (ℕ → ℕ) → ℕ → Option ℕ
digit_in letter c = digit_below letter c 16

-- a digit before the digits that follow it, if all of them read
abbrev pub put_digit : Option ℕ → Option (List ℕ) → Option (List ℕ)
put_digit None more = None
put_digit (Some d) None = None
put_digit (Some d) (Some digits) = Some (d ∷ digits)

-- the digits that a text reads as
unfoldable pub digits_read : (ℕ → ℕ) → List ℕ → Option (List ℕ)
digits_read letter [] = Some []
digits_read letter (c ∷ text) = put_digit (digit_below letter c 16) (digits_read letter text)

-- Prefixes of digits: their place among ids, and the zeros after them.

-- the place of a prefix against an id: dictionary order against as many of the id's first digits
abbrev pub place : List ℕ → List ℕ → Ordering
place prefix id = slice_cmp nat_cmp prefix (take (length prefix) id)

-- the digits, and zeros after them up to n
abbrev pub padded : ℕ → List ℕ → List ℕ
padded n digits = digits ++ replicate (n - length digits) 0

-- whether a digest has n bytes: 20 for SHA-1, 32 for SHA-256
abbrev pub is_digest_len : ℕ → Bool
is_digest_len n = n == 20 || n == 32

-- Digits as numbers: the first 32 in one word of 128 bits, and the rest in another.

-- the number that n digits write in base 16, the highest first: those of the list, and then zeros
unfoldable pub word : ℕ → List ℕ → ℕ
word zero digits = 0
word (suc n) [] = 0
word (suc n) (d ∷ digits) = d * 16 ^ n + word n digits

-- the two words of up to 64 digits
abbrev pub words_of : List ℕ → Words
words_of digits = record { first = word 32 digits; second = word 32 (drop 32 digits) }
