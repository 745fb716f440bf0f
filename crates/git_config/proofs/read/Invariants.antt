use Rattle.std.proofs.Common.{◌++◌, [], ℕ, List, length, Option, map}
use Rattle.git_config.specs.Grammar.{Reads, Variable, without_mark}
use Rattle.git_config.specs.Views.{said}
use Rattle.git_config.proofs.read.Given as goal

abbrev pub invariant-loop-byte : goal.invariant-loop-byte
invariant-loop-byte l = (more : List Variable) (bad : Option ℕ) → Reads l.section.items l.left more bad → Reads [] (without_mark l.fn.text) (map said l.variables.items ++ more) bad

abbrev pub decreases-loop-byte : goal.decreases-loop-byte
decreases-loop-byte l = length l.left
