use Rattle.gix_hash.proofs.SpellingLaws.{oid_eq-spelling, oid_eq-kind}
use Rattle.gix_hash.proofs.laws.equal_views.Goals as goal

pub returns-clause-spelling : goal.returns-clause-spelling
returns-clause-spelling c = oid_eq-spelling c.args.first c.args.second

pub returns-clause-kind : goal.returns-clause-kind
returns-clause-kind c = oid_eq-kind c.args.first c.args.second
