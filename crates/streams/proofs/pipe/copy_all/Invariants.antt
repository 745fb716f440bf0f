use Rattle.gix_hash.proofs.Std.{◌≡◌, ◌-◌, ◌^◌, List, ℕ, false, Appends}
use Rattle.gix_hash.specs.Words.{WasFed, hasher_kind}
use Rattle.streams.specs.Streams.{HasReadCounted}
use Rattle.streams.proofs.pipe.copy_all.Given as goal

-- the sink and the hasher took what the source gave
abbrev pub invariant-chunks : goal.invariant-chunks
invariant-chunks g l = (message : List ℕ) × record {
  given : HasReadCounted (g.R.Source.remaining l.fn.input) (g.R.Source.remaining l.input) message l.total;
  reads : g.R.Source.has_failed l.input ≡ false;
  stands : g.W.Sink.has_failed l.out ≡ false;
  kind : hasher_kind l.hasher ≡ l.fn.kind;
  fed : WasFed l.hasher message;
  taken : Appends (g.W.Sink.taken l.fn.out) (g.W.Sink.taken l.out) message;
}

abbrev pub decreases-chunks : goal.decreases-chunks
decreases-chunks g l = 2 ^ 61 - 1 - l.total
