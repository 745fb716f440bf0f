use Rattle.id_digits.proofs.Std.{◌≡◌, sym, ◌∙◌, arith}
use Rattle.id_digits.proofs.DigitNumbers.{word-bytes, big_from}
use Rattle.id_digits.proofs.words.word_of_16_bytes.Goals as goal

pub returns : goal.returns
returns c =
    let number : c.from_be_bytes.result ≡ big_from 0 16 c.args.bytes.now = omega (arith, c.from_be_bytes.ensures) in
    number ∙ sym (word-bytes 16 c.args.bytes.now)
