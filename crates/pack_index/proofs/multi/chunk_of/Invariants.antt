use Rattle.gix_hash.proofs.Std.{◌≢◌, ℕ, ◌<◌}
use Rattle.pack_index.specs.Multi.{chunk_letters}
use Rattle.pack_index.proofs.multi.chunk_of.Given as goal

-- no chunk before has these letters
abbrev pub invariant-loop-at : goal.invariant-loop-at
invariant-loop-at l = (k : ℕ) → k < l.at → chunk_letters l.front k ≢ l.letters
