use Rattle.gix_hash.proofs.ReadingLaws.{letter_of-alphabet, full_read-ok, full_read-err, full_read-cases}
use Rattle.gix_hash.proofs.laws.full_readings.Goals as goal

pub returns-clause-ok : goal.returns-clause-ok
returns-clause-ok c = full_read-ok _ (letter_of-alphabet c.args.alphabet) c.args.text.now

pub returns-clause-err : goal.returns-clause-err
returns-clause-err c = full_read-err _ (letter_of-alphabet c.args.alphabet) c.args.text.now

pub returns-clause-cases : goal.returns-clause-cases
returns-clause-cases c = full_read-cases _ (letter_of-alphabet c.args.alphabet) c.args.text.now
