use Rattle.id_digits.proofs.Std.{refl}
use Rattle.gix_hash.specs.Reading.{letter_of}
use Rattle.gix_hash.proofs.ReadingLaws.{letter_of-alphabet, prefix_read-printed, prefix_read-same}
use Rattle.gix_hash.proofs.laws.read_prefix_back.Goals as goal

pub returns : goal.returns
returns c =
    let p = c.args.prefix.now in
    let letter = letter_of c.args.alphabet in
    let within = c.hex_len-len.ensures.most in
    let read = prefix_read-printed letter (letter_of-alphabet c.args.alphabet) c.args.text.now p
    c.requires.printed c.requires.nonempty (rw c.hex_len-len.ensures.value at within) c.hex_len-len.ensures.digits_in_range in
    record { reads = rw read.2 refl; digits = rw read.2 refl; same = prefix_read-same letter c.args.text.now p read }
