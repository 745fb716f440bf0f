use Rattle.id_digits.proofs.Std.{◌<◌, length, arith}
use Rattle.id_digits.specs.Letters.{reverse_of_hex}
use Rattle.id_digits.proofs.ReverseLetters.{replaced_more}
use Rattle.id_digits.proofs.reverse.to_reverse_letters.Goals as goal

pub loop-letter-preserved : goal.loop-letter-preserved
loop-letter-preserved c =
    let within : c.loop-letter.letter-index < length c.args.text.now = omega arith in
    let there : c.loop-letter.letter-index < length c.loop-letter.text = omega arith in
    replaced_more reverse_of_hex c.args.text.now c.loop-letter.text _ _ within there c.loop-letter.invariant c.to_reverse_letter.ensures
