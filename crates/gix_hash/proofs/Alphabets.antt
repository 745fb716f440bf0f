-- Letters of either alphabet.
use Rattle.id_digits.proofs.Std.{ℕ, ◌<◌, arith, nat_tests}
use Rattle.gix_hash.specs.declared.alphabet.Alphabet.{Alphabet}
use Rattle.gix_hash.specs.declared.alphabet.Alphabet.TheVariants.{Hex, Reverse}
use Rattle.gix_hash.specs.Reading.{letter_of}

-- letters are ASCII
pub letter_of-ascii : (alphabet : Alphabet) (d : ℕ) → d < 16 → letter_of alphabet d < 128
letter_of-ascii Hex d lt = grind (arith, nat_tests)
letter_of-ascii Reverse d lt = omega arith
