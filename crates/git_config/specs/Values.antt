-- What values of git-config(1) mean: numbers and booleans.
use Rattle.std.specs.Prelude.{ℕ, ◌+◌, ◌*◌, ◌-◌, ◌^◌, Bool, true, ◌&&◌, ◌||◌, ◌==◌, nat_le, nat_lt, if◌then◌else◌, Option, Some, None, List, [], ◌∷◌, codes, is_some, length, take, drop, slice_index, option_and_then, option_map, ℤ, pos, ◌-ℤ◌}
use Rattle.std.specs.Char.{digit_value}
use Rattle.std.specs.List.{list_any}
use Rattle.std.specs.Str.{str_eq_ignore_ascii_case}
use Rattle.git_config.specs.Grammar.{past}

-- whether a byte is a space, as C defines spaces
abbrev pub is_c_space : ℕ → Bool
is_c_space byte = byte == 32 || nat_le 9 byte && nat_le byte 13

-- the number of at most 31 bits that the digits of n and these mean in a base, if all are digits
abbrev pub numeral_after : ℕ → ℕ → List ℕ → Option ℕ
numeral_after base n [] = Some n
numeral_after base n (digit ∷ rest) = if nat_lt (digit_value digit) base && nat_lt (n * base + digit_value digit) (2 ^ 31) then numeral_after base (n * base + digit_value digit) rest else None

-- the number that digits mean in a base; there has to be one
abbrev pub numeral : ℕ → List ℕ → Option ℕ
numeral base [] = None
numeral base (digit ∷ rest) = numeral_after base 0 (digit ∷ rest)

-- the number that digits mean in base 10, after 0 in base 8 and after 0x in base 16
abbrev pub magnitude : List ℕ → Option ℕ
magnitude text =
    if slice_index text 0 == 48 then (if slice_index text 1 == 120 || slice_index text 1 == 88 then numeral 16 (drop 2 text) else numeral 8 text) else numeral 10 text

-- the factor that a letter after a number means, or 1 if it means none
abbrev pub unit : ℕ → ℕ
unit letter =
    if letter == 107 || letter == 75 then 2 ^ 10 else
    if letter == 109 || letter == 77 then 2 ^ 20 else
    if letter == 103 || letter == 71 then 2 ^ 30 else 1

-- the product of a unit and a number, if it has at most 31 bits
abbrev pub times : ℕ → ℕ → Option ℕ
times unit number = if nat_lt (number * unit) (2 ^ 31) then Some (number * unit) else None

-- the number that digits mean, with a letter after them if there is one
abbrev pub scaled : List ℕ → Option ℕ
scaled text =
    let by = unit (slice_index text (length text - 1)) in
    option_and_then (times by) (magnitude (if by == 1 then text else take (length text - 1) text))

-- the number that a text means after its spaces: a sign, digits, and maybe a letter
abbrev pub number : List ℕ → Option ℤ
number text =
    let signed = past is_c_space text in
    let sign = slice_index signed 0 in
    if sign == 45 then option_map (λ size. pos 0 -ℤ pos size) (scaled (drop 1 signed)) else
    option_map pos (scaled (if sign == 43 then drop 1 signed else signed))

-- the words that are booleans
abbrev pub boolean_words : List (List ℕ)
boolean_words = [] ∷ codes "true" ∷ codes "yes" ∷ codes "on" ∷ codes "false" ∷ codes "no" ∷ codes "off" ∷ []

-- whether a value is a boolean: a word for one in any case of letters, a number, or no value at all
abbrev pub is_boolean : Option (List ℕ) → Bool
is_boolean None = true
is_boolean (Some text) = list_any (λ word. str_eq_ignore_ascii_case text word) boolean_words || is_some (number text)
