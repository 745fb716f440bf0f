use Rattle.id_digits.proofs.Std.{◌≡◌, suc, ◌*◌, ◌/◌, ◌<◌, ◌≤◌, length, arith}
use Rattle.id_digits.proofs.Packing.{padded-even, padded-odd}
use Rattle.id_digits.proofs.copying.copy_digits.Goals as goal

pub returns-then-hex_len-eq1 : goal.returns-then-hex_len-eq1
returns-then-hex_len-eq1 c =
    let odd : c.args.hex_len ≡ suc (2 * (c.args.hex_len / 2)) = omega arith in
    let within : c.args.hex_len / 2 < length c.args.front.now = omega arith in
    rw c.copy_from_slice.ensures.after
    (padded-odd c.args.hex_len (c.args.hex_len / 2) _ c.args.front.now c.args.zeros.now odd within c.requires.room c.requires.zeros)

pub returns-else-hex_len-eq1 : goal.returns-else-hex_len-eq1
returns-else-hex_len-eq1 c =
    let even : c.args.hex_len ≡ 2 * (c.args.hex_len / 2) = omega arith in
    let within : c.args.hex_len / 2 ≤ length c.args.front.now = omega arith in
    rw c.copy_from_slice.ensures.after
    (padded-even c.args.hex_len (c.args.hex_len / 2) _ c.args.front.now c.args.zeros.now even within c.requires.zeros)
