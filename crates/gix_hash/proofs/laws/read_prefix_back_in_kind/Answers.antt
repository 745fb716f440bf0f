use Rattle.gix_hash.specs.Reading.{letter_of}
use Rattle.gix_hash.proofs.ReadingLaws.{letter_of-alphabet, prefix_read_in-printed}
use Rattle.gix_hash.proofs.laws.read_prefix_back_in_kind.Goals as goal

pub returns : goal.returns
returns c =
    let p = c.args.prefix.now in
    let within = c.hex_len-len.ensures.at_most_kind in
    prefix_read_in-printed (letter_of c.args.alphabet) (letter_of-alphabet c.args.alphabet) c.args.text.now p
    c.requires.printed c.requires.nonempty (rw c.hex_len-len.ensures.value at within) c.hex_len-len.ensures.digits_in_range
