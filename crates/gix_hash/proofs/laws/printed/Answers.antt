use Rattle.gix_hash.specs.Reading.{letter_of}
use Rattle.gix_hash.proofs.SpellingLaws.{lowercase_spelling}
use Rattle.gix_hash.proofs.ReadingLaws.{full_read-printed, letter_of-alphabet}
use Rattle.gix_hash.proofs.laws.printed.Goals as goal

pub returns-clause-lowercase : goal.returns-clause-lowercase
returns-clause-lowercase c = lowercase_spelling c.args.alphabet

pub returns-clause-reads : goal.returns-clause-reads
returns-clause-reads c kind digits h =
    full_read-printed (letter_of c.args.alphabet) (letter_of-alphabet c.args.alphabet) _ kind digits (lowercase_spelling c.args.alphabet digits h.1) h
