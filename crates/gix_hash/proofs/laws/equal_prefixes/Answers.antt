use Rattle.gix_hash.proofs.SpellingLaws.{prefix_eq-spelling}
use Rattle.gix_hash.proofs.laws.equal_prefixes.Goals as goal

pub returns-clause-spelling : goal.returns-clause-spelling
returns-clause-spelling c = prefix_eq-spelling c.args.first.now c.args.second.now
