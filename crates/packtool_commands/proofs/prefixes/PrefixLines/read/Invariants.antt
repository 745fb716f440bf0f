use Rattle.gix_hash.proofs.Std.{◌≡◌, ◌++◌, length, map}
use Rattle.streams.specs.Streams.{lines_of}
use Rattle.packtool_commands.specs.Stores.{marked, prefixes_of}
use Rattle.packtool_commands.proofs.AnswerLemmas.{mark}
use Rattle.packtool_commands.proofs.prefixes.PrefixLines.read.Given as goal

abbrev pub invariant-loop-rest : goal.invariant-loop-rest
invariant-loop-rest g l = record {
  lines : map mark l.lines.items ++ marked l.kind (lines_of l.rest) ≡ marked l.kind (lines_of l.text);
  prefixes : l.prefixes.items ++ prefixes_of l.kind (lines_of l.rest) ≡ prefixes_of l.kind (lines_of l.text);
}

abbrev pub decreases-loop-rest : goal.decreases-loop-rest
decreases-loop-rest g l = length l.rest
