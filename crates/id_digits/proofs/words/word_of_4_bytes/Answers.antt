use Rattle.id_digits.proofs.Std.{◌≡◌, ◌<◌, ℕ, arith, All-from_get_or}
use Rattle.id_digits.proofs.DigitNumbers.{word-four, big_from}
use Rattle.id_digits.proofs.Spellings.{All-digits_of}
use Rattle.id_digits.proofs.words.word_of_4_bytes.Goals as goal

pub returns : goal.returns
returns c =
    let bytes = c.args.bytes.now in
    let in_range = All-from_get_or (λ (b : ℕ). b < 256) bytes 0 (λ i lt. (c.type_inv.bytes i).fits) in
    let front = c.from_be_bytes-front.result in
    let number : front ≡ big_from 0 4 bytes = omega (arith, c.from_be_bytes-front.ensures) in
    word-four bytes front (All-digits_of bytes in_range) c.requires number
