use Rattle.id_digits.proofs.Std.{leb, cond, refl, arith, zip2_splat_left}
use Rattle.id_digits.specs.Letters.{is_digit}
use Rattle.id_digits.proofs.LaneValues.{all_clear}
use Rattle.id_digits.proofs.reading.are_digits.Goals as goal

pub returns : goal.returns
returns c =
    let v = c.args.values in
    all_clear _ is_digit v (zip2_splat_left (λ a b. cond (leb a b) 255 0) 16 16 v c.fits-values.0) (omega (arith, c.fits-values.0)) c.fits-values.1 refl
