use Rattle.gix_hash.proofs.Std.{ℕ, ◌<◌}
use Rattle.packtool_commands.specs.Files.{IsOffsetBelow}
use Rattle.packtool_commands.proofs.pairing.first_beyond.Given as goal

abbrev pub invariant-loop-at : goal.invariant-loop-at
invariant-loop-at l = (k : ℕ) → k < l.at → IsOffsetBelow l.index.kind l.index.bytes l.end k
