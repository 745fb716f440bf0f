use Rattle.gix_hash.proofs.ReadingLaws.{letter_of-alphabet, prefix_read_in-ok, prefix_read_in-err}
use Rattle.gix_hash.proofs.laws.prefix_readings_in.Goals as goal

pub returns-clause-ok : goal.returns-clause-ok
returns-clause-ok c = prefix_read_in-ok c.args.kind _ (letter_of-alphabet c.args.alphabet) c.args.text.now

pub returns-clause-err : goal.returns-clause-err
returns-clause-err c = prefix_read_in-err c.args.kind _ (letter_of-alphabet c.args.alphabet) c.args.text.now
