-- Texts that Git quotes as C does.
use Rattle.std.specs.Prelude.{ℕ, suc, zero, ◌+◌, ◌-◌, ◌*◌, ◌&&◌, Bool, ◌==◌, nat_le, if◌then◌else◌, Option, Some, None, List, [], ◌∷◌, length, option_map}

-- the byte that a letter after a backslash means
abbrev pub unescaped : ℕ → Option ℕ
unescaped letter =
    if letter == 97 then Some 7 else
    if letter == 98 then Some 8 else
    if letter == 116 then Some 9 else
    if letter == 110 then Some 10 else
    if letter == 118 then Some 11 else
    if letter == 102 then Some 12 else
    if letter == 114 then Some 13 else
    if letter == 34 then Some 34 else
    if letter == 92 then Some 92 else None

-- whether a byte is a digit from 0 to the last one
abbrev pub is_digit_to : ℕ → ℕ → Bool
is_digit_to last byte = nat_le 48 byte && nat_le byte last

-- the byte that three octal digits mean at the front of a text, and the rest
abbrev pub octal_byte : List ℕ → Option (ℕ × List ℕ)
octal_byte (high ∷ (middle ∷ (low ∷ rest))) =
    if is_digit_to 51 high && is_digit_to 55 middle && is_digit_to 55 low
    then Some ((high - 48) * 64 + (middle - 48) * 8 + (low - 48), rest)
    else None
octal_byte _ = None

-- the byte that is meant after a backslash, and the rest: three octal digits, or else a letter
abbrev pub unescaped_byte : List ℕ → Option (ℕ × List ℕ)
unescaped_byte [] = None
unescaped_byte (letter ∷ rest) = if is_digit_to 51 letter then octal_byte (letter ∷ rest) else option_map (λ byte. (byte, rest)) (unescaped letter)

-- the first byte that a quoted text means, and the rest; or none, at a quotation mark, a wrong escape and the end
abbrev pub quoted_byte : List ℕ → Option (ℕ × List ℕ)
quoted_byte [] = None
quoted_byte (byte ∷ rest) = if byte == 34 then None else if byte == 92 then unescaped_byte rest else Some (byte, rest)

-- the bytes that the front of a quoted text means, so many at most, and the rest of the text
abbrev pub meant : ℕ → List ℕ → List ℕ × List ℕ
meant zero text = ([], text)
meant (suc n) text = elim (quoted_byte text) [
  | Some next ↦ let more = meant n next.1 in (next.0 ∷ more.0, more.1)
  | None ↦ ([], text)
]

-- what is after a quotation mark, if a text begins with one
abbrev pub after_mark : List ℕ → Option (List ℕ)
after_mark [] = None
after_mark (first ∷ rest) = if first == 34 then Some rest else None

-- what a text means after a quotation mark, and what is after the closing one; or none if it is not quoted right
abbrev pub unquoted : List ℕ → Option (List ℕ × List ℕ)
unquoted text = let all = meant (length text) text in option_map (λ rest. (all.0, rest)) (after_mark all.1)
