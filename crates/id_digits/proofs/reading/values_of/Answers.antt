use Rattle.id_digits.proofs.Std.{ℕ, leb, cond, refl, zip2_splat, zip2_of_maps, splat_is_map}
use Rattle.id_digits.specs.Letters.{value_of}
use Rattle.id_digits.proofs.LaneValues.{selected, same_lanes}
use Rattle.id_digits.specs.Digits.{digit_below}
use Rattle.id_digits.proofs.reading.values_of.Goals as goal

pub returns : goal.returns
unfolding digit_below
returns c =
    let v = c.args.letters in
    let long = c.fits-letters.0 in
    same_lanes _ value_of v
    (zip2_of_maps _ _ _ v
    (selected _ _ _ v
    (zip2_of_maps (λ (a b : ℕ). cond (leb a b) 255 0) _ _ v (splat_is_map v 16 128 long) (zip2_splat {Y = ℕ} _ v 16 58 long))
    (zip2_splat {Y = ℕ} _ v 16 58 long)
    (selected _ _ _ v
    (zip2_of_maps _ _ _ v (zip2_of_maps _ _ _ v (zip2_splat {Y = ℕ} _ v 16 223 long) (splat_is_map v 16 65 long)) (splat_is_map v 16 245 long))
    (zip2_of_maps _ _ _ v (zip2_splat {Y = ℕ} _ v 16 223 long) (splat_is_map v 16 65 long))
    (splat_is_map v 16 245 long)))
    (splat_is_map v 16 10 long))
    c.fits-letters.1 refl
