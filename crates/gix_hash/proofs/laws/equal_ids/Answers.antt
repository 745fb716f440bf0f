use Rattle.gix_hash.proofs.Equalities.{id_eq-same}
use Rattle.gix_hash.proofs.SpellingLaws.{id_eq-spelling}
use Rattle.gix_hash.proofs.laws.equal_ids.Goals as goal

pub returns-clause-same : goal.returns-clause-same
returns-clause-same c = id_eq-same c.args.first.now c.args.second.now

pub returns-clause-spelling : goal.returns-clause-spelling
returns-clause-spelling c = id_eq-spelling c.args.first.now c.args.second.now c.kind.ensures.len c.kind-2.ensures.len
