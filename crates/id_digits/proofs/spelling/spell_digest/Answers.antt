use Rattle.id_digits.proofs.Std.{◌≤◌, length, refl, arith, nat_tests}
use Rattle.id_digits.proofs.LaneReading.{least}
use Rattle.id_digits.proofs.LaneSpelling.{stored_whole}
use Rattle.id_digits.proofs.spelling.spell_digest.Goals as goal

pub returns : goal.returns
returns c =
    let bytes = c.args.bytes.now in
    let most : length bytes ≤ 32 = grind (arith, nat_tests, c.requires.digest) in
    rw (c.put_letters-2.ensures, c.put_letters.ensures) (stored_whole (length bytes) bytes c.args.text.now refl c.requires.len (omega (arith, least (length bytes) c.requires.digest)) most)
