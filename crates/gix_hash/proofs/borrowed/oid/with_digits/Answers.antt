use Rattle.id_digits.proofs.Std.{rules}
use Rattle.gix_hash.proofs.borrowed.oid.with_digits.Goals as goal

pub returns-clause-value : goal.returns-clause-value
returns-clause-value c = search rules
