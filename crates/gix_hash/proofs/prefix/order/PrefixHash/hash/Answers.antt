use Rattle.gix_hash.specs.PrefixBytes.{length-shown}
use Rattle.gix_hash.proofs.KeptDigits.{packed_digits-shown}
use Rattle.gix_hash.proofs.prefix.order.PrefixHash.hash.Goals as goal

pub returns : goal.returns
returns g c =
    let bytes = packed_digits-shown c.self.inside c.self.invariant in
    let len = length-shown c.self.inside c.self.invariant in
    rw (← c.self.view_is, bytes, len) (rw (c.write.ensures, c.as_slice.ensures.value) at c.hash.ensures)
