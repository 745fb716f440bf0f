use Rattle.gix_hash.proofs.Std.{rules}
use Rattle.streams.proofs.checking.check_either.Goals as goal

pub returns-clause-checked : goal.returns-clause-checked
returns-clause-checked g c = search rules
