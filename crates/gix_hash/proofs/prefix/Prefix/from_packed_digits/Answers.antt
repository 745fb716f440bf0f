use Rattle.id_digits.proofs.Std.{◌-◌, refl, arith}
use Rattle.gix_hash.proofs.Packing.{take-digits_of-take}
use Rattle.gix_hash.proofs.prefix.Prefix.from_packed_digits.Goals as goal

pub returns-clause-some : goal.returns-clause-some
returns-clause-some c =
    let front = c.in_ok-front.ensures.lookup.0.2 in
    let first = take-digits_of-take c.args.hex_len (c.div_ceil.result - 0) c.args.bytes.now (omega (arith, c.div_ceil.ensures)) in
    λ within enough. rw (c.packed.ensures, front, first) refl
