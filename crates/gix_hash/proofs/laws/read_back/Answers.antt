use Rattle.id_digits.specs.Digits.{hex_letter}
use Rattle.id_digits.proofs.ReadingFacts.{hex_alphabet}
use Rattle.gix_hash.proofs.ReadingLaws.{full_read-printed}
use Rattle.gix_hash.proofs.laws.read_back.Goals as goal

pub returns : goal.returns
returns c = full_read-printed hex_letter hex_alphabet c.args.text.now _ _ c.requires (c.kind-kind.ensures.len, c.kind-kind.ensures.digits_in_range)
