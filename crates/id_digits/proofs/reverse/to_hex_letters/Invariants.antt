use Rattle.id_digits.proofs.Std.{◌≡◌, ◌++◌, map, take, drop}
use Rattle.id_digits.specs.Letters.{hex_of_reverse}
use Rattle.id_digits.proofs.reverse.to_hex_letters.Given as goal

abbrev pub invariant-loop-letter : goal.invariant-loop-letter
invariant-loop-letter l = l.text ≡ map hex_of_reverse (take l.letter-index l.initial.text) ++ drop l.letter-index l.initial.text
