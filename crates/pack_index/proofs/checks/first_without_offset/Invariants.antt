use Rattle.gix_hash.proofs.Std.{ℕ, ◌<◌}
use Rattle.pack_index.specs.Format.{HasOffset}
use Rattle.pack_index.proofs.checks.first_without_offset.Given as goal

abbrev pub invariant-loop-at : goal.invariant-loop-at
invariant-loop-at l = (k : ℕ) → k < l.at → HasOffset l.kind l.bytes k
