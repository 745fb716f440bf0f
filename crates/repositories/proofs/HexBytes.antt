-- The two hex digits of a byte.
use Rattle.gix_hash.proofs.Std.{◌≡◌, ◌<◌, ◌/◌, ◌%◌, ◌^◌, ◌-◌, ℕ, [], ◌∷◌, ◌∙◌, ap₂, arith, false, nat_tests}
use Rattle.std.specs.Fmt.{digit_glyph, digits, format_spec, padded_integral}
use Rattle.std.proofs.lemmas.Fmt.{hex_byte}
use Rattle.gix_hash.specs.Words.{hex_letter}
use Rattle.repositories.specs.Stores.{byte_hex}

glyph_is : (digit : ℕ) → digit < 16 → digit_glyph false digit ≡ hex_letter digit
glyph_is digit low = grind (arith, nat_tests)

-- what `{:02x}` writes of a byte
pub two_digits : (byte : ℕ) → byte < 256 → padded_integral (format_spec 32 0 4 2 (2 ^ 64 - 1)) false [] (digits 16 false byte) ≡ byte_hex byte
two_digits byte low = hex_byte false byte low ∙ ap₂ (λ high low. high ∷ low ∷ []) (glyph_is (byte / 16) (omega arith)) (glyph_is (byte % 16) (omega arith))
