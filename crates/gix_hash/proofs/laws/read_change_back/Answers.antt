use Rattle.id_digits.specs.Digits.{reverse_letter}
use Rattle.id_digits.proofs.ReverseLetters.{reverse_alphabet}
use Rattle.gix_hash.proofs.ReadingLaws.{full_read-printed}
use Rattle.gix_hash.proofs.laws.read_change_back.Goals as goal

pub returns : goal.returns
returns c = full_read-printed reverse_letter reverse_alphabet c.args.text.now _ _ c.requires (c.kind-kind.ensures.len, c.kind-kind.ensures.digits_in_range)
