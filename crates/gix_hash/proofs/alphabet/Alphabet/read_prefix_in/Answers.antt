use Rattle.id_digits.proofs.Std.{refl}
use Rattle.gix_hash.specs.Reading.{letter_of}
use Rattle.gix_hash.proofs.FrontReading.{first_read}
use Rattle.gix_hash.proofs.alphabet.Alphabet.read_prefix_in.Goals as goal

pub padded-requires-clause-zeros : goal.padded-requires-clause-zeros
padded-requires-clause-zeros c =
    (first_read (letter_of c.args.self) 40 c.args.text.now _ (rw c.if-decode.true at c.decode.ensures)).1

pub padded-requires-then-decode-2-clause-zeros : goal.padded-requires-then-decode-2-clause-zeros
padded-requires-then-decode-2-clause-zeros c =
    (first_read (letter_of c.args.self) 64 c.args.text.now _ (rw c.if-decode-2.true at c.decode-in-Sha256.ensures)).1

pub returns-then-decode : goal.returns-then-decode
returns-then-decode c =
    let read = (first_read (letter_of c.args.self) 40 c.args.text.now _ (rw c.if-decode.true at c.decode.ensures)).0 in
    rw (c.in-Sha1.is, read, c.padded.ensures) refl

pub returns-then-decode-2 : goal.returns-then-decode-2
returns-then-decode-2 c =
    let read = (first_read (letter_of c.args.self) 64 c.args.text.now _ (rw c.if-decode-2.true at c.decode-in-Sha256.ensures)).0 in
    rw (c.in-Sha256.is, read, c.padded-then-decode-2.ensures) refl
