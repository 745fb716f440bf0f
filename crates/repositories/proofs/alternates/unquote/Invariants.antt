use Rattle.gix_hash.proofs.Std.{◌≤◌, length}
use Rattle.repositories.proofs.Quoted.{Means}
use Rattle.repositories.proofs.alternates.unquote.Given as goal

abbrev pub invariant-loop-byte : goal.invariant-loop-byte
invariant-loop-byte g l = record {
  fewer : length l.left ≤ length l.fn.quoted;
  means : Means l.fn.quoted l.bytes.items l.left;
}

abbrev pub decreases-loop-byte : goal.decreases-loop-byte
decreases-loop-byte g l = length l.left
