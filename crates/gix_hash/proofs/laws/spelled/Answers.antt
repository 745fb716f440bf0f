use Rattle.gix_hash.specs.Reading.{letter_of}
use Rattle.gix_hash.proofs.SpellingLaws.{ReadsAs-is}
use Rattle.gix_hash.proofs.laws.spelled.Goals as goal

pub returns : goal.returns
returns c = ReadsAs-is (letter_of c.args.alphabet) c.args.text.now
