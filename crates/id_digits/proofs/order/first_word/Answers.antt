use Rattle.id_digits.proofs.Std.{◌≡◌, sym, ◌∙◌, arith}
use Rattle.id_digits.proofs.DigitNumbers.{word-bytes, big_from}
use Rattle.id_digits.proofs.order.first_word.Goals as goal

pub returns : goal.returns
returns c =
    let number : c.from_be_bytes.result ≡ big_from 0 8 c.args.bytes.now = omega (arith, c.from_be_bytes.ensures) in
    number ∙ sym (word-bytes 8 c.args.bytes.now)
