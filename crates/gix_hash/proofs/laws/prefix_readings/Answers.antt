use Rattle.gix_hash.proofs.ReadingLaws.{letter_of-alphabet, prefix_read-ok, prefix_read-err, prefix_read-cases}
use Rattle.gix_hash.proofs.laws.prefix_readings.Goals as goal

pub returns-clause-ok : goal.returns-clause-ok
returns-clause-ok c = prefix_read-ok _ (letter_of-alphabet c.args.alphabet) c.args.least c.args.text.now

pub returns-clause-err : goal.returns-clause-err
returns-clause-err c = prefix_read-err _ (letter_of-alphabet c.args.alphabet) c.args.least c.args.text.now

pub returns-clause-cases : goal.returns-clause-cases
returns-clause-cases c = prefix_read-cases _ (letter_of-alphabet c.args.alphabet) c.args.least c.args.text.now
