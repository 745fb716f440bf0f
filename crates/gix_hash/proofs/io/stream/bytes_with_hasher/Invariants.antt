use Rattle.id_digits.proofs.Std.{◌≡◌, ℕ, List, ◌++◌, length, ◌-◌, ◌*◌, ◌≤◌}
use Rattle.gix_hash.specs.Hashing.{Reaches, ReadsNext, WasFed, all_false, chunks, hasher_kind, heard}
use Rattle.gix_hash.proofs.io.stream.bytes_with_hasher.Given as goal

-- j chunks were read, reported, fed to the hasher and followed by a call of the interruption; these are their bytes
abbrev pub invariant-loop-left : goal.invariant-loop-left
invariant-loop-left g l = (j : ℕ) × (bytes : List ℕ) × record {
  counted : j ≤ length (chunks l.num_bytes_from_start);
  rest : l.left ≡ l.num_bytes_from_start - 65535 * j;
  reported : Reaches g.P.Progress.hears l.fn.progress (heard l.num_bytes_from_start j) l.progress;
  asked : Reaches g.I.Interrupt.answers l.fn.should_interrupt (all_false j) l.should_interrupt;
  read : ReadsNext (g.R.Read.remaining l.fn.read) (g.R.Read.remaining l.read) (l.num_bytes_from_start - l.left) bytes;
  kind : hasher_kind l.hasher ≡ hasher_kind l.fn.hasher;
  fed : (message : List ℕ) → WasFed l.fn.hasher message → WasFed l.hasher (message ++ bytes);
}

abbrev pub decreases-loop-left : goal.decreases-loop-left
decreases-loop-left g l = l.left
