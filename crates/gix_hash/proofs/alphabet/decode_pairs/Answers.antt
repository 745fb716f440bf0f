use Rattle.gix_hash.proofs.HexReading.{digits_read-decoded}
use Rattle.gix_hash.proofs.alphabet.decode_pairs.Goals as goal

pub returns : goal.returns
returns c = rw c.is_ok.ensures.value (digits_read-decoded _ _ _ _ c.requires c.decode_to_slice.ensures.value)
