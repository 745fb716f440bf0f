use Rattle.id_digits.proofs.Std.{◌≡◌, ◌++◌, map, take, drop}
use Rattle.id_digits.specs.Letters.{reverse_of_hex}
use Rattle.id_digits.proofs.reverse.to_reverse_letters.Given as goal

abbrev pub invariant-loop-letter : goal.invariant-loop-letter
invariant-loop-letter l = l.text ≡ map reverse_of_hex (take l.letter-index l.initial.text) ++ drop l.letter-index l.initial.text
