use Rattle.gix_hash.proofs.IdDigits.{digest-HasDigits, digest-AreIdDigits}
use Rattle.gix_hash.proofs.hashing_laws.digests.Goals as goal

pub returns-clause-len : goal.returns-clause-len
returns-clause-len c message = (digest-HasDigits c.args.kind message).1

pub returns-clause-bytes_in_range : goal.returns-clause-bytes_in_range
returns-clause-bytes_in_range c message = (digest-HasDigits c.args.kind message).2

pub returns-clause-digits : goal.returns-clause-digits
returns-clause-digits c = digest-AreIdDigits c.args.kind
