use Rattle.id_lookup.proofs.Spelled.{begins_with-place, is_eq-Equal, starts_with-BeginsWith, starts_with-spelling}
use Rattle.id_lookup.proofs.laws.beginnings.Goals as goal

pub returns-clause-digits : goal.returns-clause-digits
returns-clause-digits c id = rw (starts_with-spelling id c.args.prefix.now.digits) (starts_with-BeginsWith id c.args.prefix.now.digits)

pub returns-clause-place : goal.returns-clause-place
returns-clause-place c id = rw (begins_with-place c.args.prefix.now id) (is_eq-Equal _)
