use Rattle.gix_hash.proofs.Std.{Keeps}
use Rattle.streams.proofs.retrying.RetryingWrite.flush.Given as goal

abbrev pub invariant-loop : goal.invariant-loop
invariant-loop g l = Keeps (g.W.Write.contents l.fn.self.inner) (g.W.Write.contents l.self.inner)
