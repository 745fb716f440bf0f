use Rattle.id_digits.proofs.Std.{rules}
use Rattle.gix_hash.proofs.hashing.start.hasher.Goals as goal

pub returns-clause-kind : goal.returns-clause-kind
returns-clause-kind c = search rules
