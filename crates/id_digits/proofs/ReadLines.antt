-- What a line of a full id reads as.
use Rattle.id_digits.proofs.Std.{refl, ◌≡◌, ◌*◌, ℕ, List, length, take, true, Some, sym, ◌∙◌, length-take-le, length-map}
use Rattle.id_digits.specs.Digits.{digits_of, digits_read, hex_letter}
use Rattle.id_digits.specs.Letters.{IsIdLine, line_values, packed, value_of}
use Rattle.id_digits.proofs.LanePacking.{digits_of-packed}
use Rattle.id_digits.proofs.LaneReading.{read_values}

pub length-letters : (n : ℕ) (line : List ℕ) → IsIdLine n line → length (take n line) ≡ n
length-letters n line is = length-take-le n line is.long

-- the digits of the bytes that are packed of a line's values are these values
pub packed_line : (bytes n : ℕ) (line : List ℕ) → n ≡ 2 * bytes → IsIdLine n line → digits_of (packed (line_values n line)) ≡ line_values n line
packed_line bytes n line two is = digits_of-packed bytes (line_values n line) (length-map (take n line) value_of ∙ length-letters n line is ∙ two) is.digits

-- and the line reads as them
pub line_reads : (bytes n : ℕ) (line : List ℕ) → n ≡ 2 * bytes → IsIdLine n line → digits_read hex_letter (take n line) ≡ Some (digits_of (packed (line_values n line)))
line_reads bytes n line two is = read_values bytes (take n line) (packed (line_values n line)) true (length-letters n line is ∙ two) (sym is.digits) refl
