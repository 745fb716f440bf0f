use Rattle.gix_hash.proofs.SpellingLaws.{hex_letter-table, reverse_letter-table}
use Rattle.gix_hash.proofs.laws.letters.Goals as goal

pub returns-clause-hex : goal.returns-clause-hex
returns-clause-hex c = hex_letter-table

pub returns-clause-reverse : goal.returns-clause-reverse
returns-clause-reverse c = reverse_letter-table
