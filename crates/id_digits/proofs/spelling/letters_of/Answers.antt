use Rattle.id_digits.proofs.Std.{ℕ, ◌/◌, ◌%◌, map, refl, ap, ◌∙◌, zip2_splat, map-map}
use Rattle.id_digits.specs.Digits.{hex_letter}
use Rattle.id_digits.proofs.LaneSpelling.{spelled_in_turn}
use Rattle.id_digits.proofs.LaneValues.{same_lanes}
use Rattle.id_digits.proofs.spelling.letters_of.Goals as goal

pub returns : goal.returns
returns c =
    let v = c.args.bytes in
    let long = c.fits-bytes.0 in
    let letter = λ (d : ℕ). hex_letter d % 256 in
    let high = same_lanes _ (λ b. hex_letter (b / 16)) v
    (c.digit_letters-high.ensures ∙ ap (map letter) (zip2_splat {Y = ℕ} _ v 16 4 long) ∙ map-map letter _ v) c.fits-bytes.1 refl in
    let low = same_lanes _ (λ b. hex_letter (b % 16)) v
    (c.digit_letters-low.ensures ∙ ap (map letter) (zip2_splat {Y = ℕ} _ v 16 15 long) ∙ map-map letter _ v) c.fits-bytes.1 refl in
    spelled_in_turn v _ _ long high low
