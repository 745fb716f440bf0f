use Rattle.gix_hash.proofs.Std.{◌≡◌, sym, ◌∙◌, arith}
use Rattle.id_digits.proofs.DigitNumbers.{word-bytes, big_from}
use Rattle.pack_index.proofs.front.word_of.Goals as goal

pub returns : goal.returns
returns c =
    let number : c.from_be_bytes.result ≡ big_from 0 8 c.args.bytes = omega (arith, c.from_be_bytes.ensures) in
    number ∙ sym (word-bytes 8 c.args.bytes)
