use Rattle.id_digits.proofs.Std.{ℕ, ◌%◌, refl, sym, map-id, zip2_splat, zip2_of_maps, splat_is_map}
use Rattle.id_digits.specs.Digits.{hex_letter}
use Rattle.id_digits.proofs.LaneValues.{selected, same_lanes}
use Rattle.id_digits.proofs.spelling.digit_letters.Goals as goal

pub returns : goal.returns
returns c =
    let v = c.args.digits in
    let long = c.fits-digits.0 in
    same_lanes _ (λ d. hex_letter d % 256) v
    (zip2_of_maps _ (λ d. d) _ v (sym (map-id v))
    (selected _ _ _ v (zip2_splat {Y = ℕ} _ v 16 10 long) (splat_is_map v 16 48 long) (splat_is_map v 16 87 long)))
    c.fits-digits.1 refl
