use Rattle.id_digits.proofs.Std.{rules}
use Rattle.gix_hash.proofs.alphabet.Alphabet.read_prefix_nonempty.Goals as goal

pub returns-then-is_empty : goal.returns-then-is_empty
returns-then-is_empty c = search rules
