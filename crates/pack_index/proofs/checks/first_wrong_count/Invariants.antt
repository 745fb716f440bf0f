use Rattle.gix_hash.proofs.Std.{ℕ, ◌<◌}
use Rattle.pack_index.specs.Format.{HasCount}
use Rattle.pack_index.proofs.checks.first_wrong_count.Given as goal

abbrev pub invariant-loop-byte : goal.invariant-loop-byte
invariant-loop-byte l = (b : ℕ) → b < l.byte → HasCount l.fn.kind l.bytes b
