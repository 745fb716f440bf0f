use Rattle.id_digits.proofs.Std.{◌<◌, length, arith}
use Rattle.id_digits.specs.Letters.{hex_of_reverse}
use Rattle.id_digits.proofs.ReverseLetters.{replaced_more}
use Rattle.id_digits.proofs.reverse.to_hex_letters.Goals as goal

pub loop-letter-preserved : goal.loop-letter-preserved
loop-letter-preserved c =
    let within : c.loop-letter.letter-index < length c.args.text.now = omega arith in
    let there : c.loop-letter.letter-index < length c.loop-letter.text = omega arith in
    replaced_more hex_of_reverse c.args.text.now c.loop-letter.text _ _ within there c.loop-letter.invariant c.to_hex_letter.ensures
