use Rattle.gix_hash.proofs.Equalities.{Contains-id_eq}
use Rattle.gix_hash.proofs.laws.contains_equal.Goals as goal

pub returns : goal.returns
returns c = λ ids. Contains-id_eq ids c.args.id.now
