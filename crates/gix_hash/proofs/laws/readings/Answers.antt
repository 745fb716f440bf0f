use Rattle.gix_hash.specs.Reading.{letter_of}
use Rattle.id_digits.proofs.ReadingFacts.{ReadsAs-digits_read, digits_read-ReadsAs, IsUnreadable-digits_read, digits_read-IsUnreadable}
use Rattle.gix_hash.proofs.ReadingLaws.{letter_of-alphabet}
use Rattle.gix_hash.proofs.laws.readings.Goals as goal

pub returns-clause-some : goal.returns-clause-some
returns-clause-some c =
    let letter = letter_of c.args.alphabet in
    λ ds. (ReadsAs-digits_read letter _ ds, digits_read-ReadsAs letter (letter_of-alphabet c.args.alphabet) _ ds)

pub returns-clause-none : goal.returns-clause-none
returns-clause-none c =
    let letter = letter_of c.args.alphabet in
    (IsUnreadable-digits_read letter (letter_of-alphabet c.args.alphabet) _, digits_read-IsUnreadable letter _)
