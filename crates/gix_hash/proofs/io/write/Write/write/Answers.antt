use Rattle.id_digits.proofs.Std.{rules}
use Rattle.gix_hash.proofs.io.write.Write.write.Goals as goal

pub returns-clause-passes : goal.returns-clause-passes
returns-clause-passes g c = search rules
