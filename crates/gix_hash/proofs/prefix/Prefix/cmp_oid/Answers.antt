use Rattle.id_digits.proofs.Std.{arith, common_steps}
use Rattle.gix_hash.proofs.prefix.Prefix.cmp_oid.Goals as goal

pub returns : goal.returns
returns c =
    rw c.as_bytes.ensures.value at c.place.ensures c.args.self.now.digits (grind (arith, common_steps)) (grind (arith, common_steps)) (grind (arith, common_steps))
    (grind (arith, common_steps))
