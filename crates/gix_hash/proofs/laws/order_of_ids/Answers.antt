use Rattle.id_digits.proofs.Std.{rules, comparing}
use Rattle.gix_hash.proofs.Equalities.{id_eq-same}
use Rattle.gix_hash.proofs.laws.order_of_ids.Goals as goal

pub returns-clause-total : goal.returns-clause-total
returns-clause-total c = search (comparing, rules)

pub returns-clause-ties : goal.returns-clause-ties
returns-clause-ties c = λ a b. search (comparing, rules)

pub returns-clause-same : goal.returns-clause-same
returns-clause-same c = λ a b. (id_eq-same a b).0
