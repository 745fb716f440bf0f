use Rattle.gix_hash.proofs.Std.{◌≡◌, length, Keeps}
use Rattle.streams.proofs.retrying.RetryingRead.read.Given as goal

abbrev pub invariant-loop : goal.invariant-loop
invariant-loop g l = (length l.buf ≡ length l.fn.buf) × Keeps (g.R.Read.remaining l.fn.self.inner) (g.R.Read.remaining l.self.inner)
