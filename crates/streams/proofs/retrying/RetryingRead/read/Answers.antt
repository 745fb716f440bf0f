use Rattle.gix_hash.proofs.Std.{rules}
use Rattle.streams.proofs.retrying.RetryingRead.read.Goals as goal

pub returns-in_default-2-clause-bytes : goal.returns-in_default-2-clause-bytes
returns-in_default-2-clause-bytes g c = search rules
