use Rattle.id_digits.proofs.Std.{◌≤◌, length, refl, arith, nat_tests}
use Rattle.id_digits.proofs.LaneReading.{rest_stored}
use Rattle.id_digits.proofs.reading.put_rest.Goals as goal

pub returns : goal.returns
returns c =
    let least : 16 ≤ length c.args.bytes.now = grind (arith, nat_tests, c.requires) in
    let most : length c.args.bytes.now ≤ 32 = grind (arith, nat_tests, c.requires) in
    rw c.copy_from_slice.ensures.after (rest_stored _ c.args.bytes.now c.args.lanes c.fits-lanes.0 refl least most)
