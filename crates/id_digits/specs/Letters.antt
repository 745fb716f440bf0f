-- Letters: their values as lanes read them, those of the other alphabet, and lines of sorted ids.
use Rattle.std.specs.Prelude.{[], ℕ, ◌%◌, ◌&&◌, ◌*◌, ◌+◌, ◌-◌, ◌==◌, ◌||◌, ◌∷◌, ◌≡◌, ◌≤◌, Bool, IsTrue, List, if◌then◌else◌, length, map, min, nat_le, nat_lt, slice_index, take, true, bit_and, unwrap_or}
use Rattle.std.specs.Char.{to_ascii_lowercase}
use Rattle.std.specs.Cmp.Lexicographic.{slice_cmp}
use Rattle.std.specs.List.{list_all}
use Rattle.std.specs.Ordering.{is_le, is_lt, nat_cmp}
use Rattle.std.specs.declared.cmp.Ordering.{Ordering}
use Rattle.id_digits.specs.Digits.{digit_in, hex_letter}

-- Letters as lanes read them: a value for each, and a byte of each two values.

-- what lanes compute of a byte: ten more than what it is above the digits, or as a capital above `A`, in the arithmetic of bytes
abbrev pub lane_of : ℕ → ℕ
lane_of c = ((if nat_le 128 ((c + 198) % 256) then (c + 198) % 256 else min ((bit_and c 223 + 191) % 256) 245) + 10) % 256

-- the digit whose letter c is, in either case; for another byte what lanes compute, and never a digit
abbrev pub value_of : ℕ → ℕ
value_of c = unwrap_or (digit_in hex_letter c) (16 + (lane_of c - 16))

-- the values of the letters of a text
abbrev pub values_of : List ℕ → List ℕ
values_of text = map value_of text

-- whether a value is that of a digit
abbrev pub is_digit : ℕ → Bool
is_digit value = nat_lt value 16

-- the byte of each two values, in the arithmetic of bytes
unfoldable pub packed : List ℕ → List ℕ
packed [] = []
packed (high ∷ []) = []
packed (high ∷ (low ∷ values)) = (high * 16 % 256 + low) % 256 ∷ packed values

-- The letters of one alphabet for the letters of the other.

-- the hex letter of a reverse letter's digit, in any case; a dash, which is no hex letter, for another byte
abbrev pub hex_of_reverse : ℕ → ℕ
hex_of_reverse c =
    let lower = to_ascii_lowercase c in
    if nat_le 113 lower && nat_le lower 122 then 122 - lower + 48
    else if nat_le 107 lower && nat_le lower 112 then 112 - lower + 97
    else 45

-- the reverse letter of a hex letter's digit; another byte as it is
abbrev pub reverse_of_hex : ℕ → ℕ
reverse_of_hex c =
    if nat_le 48 c && nat_le c 57 then 122 - (c - 48)
    else if nat_le 97 c && nat_le c 102 then 112 - (c - 97)
    else c

-- Lines of full ids in order.

-- whether a line of a full id has n bytes, with its line feed: 41 for SHA-1, 65 for SHA-256
abbrev pub is_line_len : ℕ → Bool
is_line_len n = n == 41 || n == 65

-- what the first n bytes of a line read as, letter by letter
abbrev pub line_values : ℕ → List ℕ → List ℕ
line_values n line = values_of (take n line)

-- the line begins with n hex letters and a line feed
pub record IsIdLine (n : ℕ) (line : List ℕ) : Type 0 where
  pub long : n ≤ length line
  pub feed : slice_index line n ≡ 10
  pub digits : list_all is_digit (line_values n line) ≡ true

-- whether an id may follow another that compares with it like this: it is above that one, or equal to it where ids may be repeated
abbrev pub may_follow : Bool → Ordering → Bool
may_follow repeats order = if repeats then is_le order else is_lt order

-- each line begins with n hex letters and a line feed, and its id may follow that of the line before it
unfoldable pub AreSortedLines : ℕ → Bool → List ℕ → List (List ℕ) → Type 0
AreSortedLines n repeats previous [] = Unit {0}
AreSortedLines n repeats previous (line ∷ lines) = IsIdLine n line
    × IsTrue (may_follow repeats (slice_cmp nat_cmp (line_values n previous) (line_values n line))) × AreSortedLines n repeats line lines
