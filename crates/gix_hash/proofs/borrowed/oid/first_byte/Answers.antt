use Rattle.id_digits.proofs.ByteDigits.{first_byte-digits_of}
use Rattle.gix_hash.proofs.borrowed.oid.first_byte.Goals as goal

pub returns : goal.returns
returns c = first_byte-digits_of c.args.self.now.bytes.now
