use Rattle.gix_hash.proofs.Std.{◌≡◌, ℕ, ◌+◌, ◌-◌, ◌^◌, List, ◌++◌, length, take, false, min}
use Rattle.gix_hash.specs.Words.{WasFed, hasher_kind}
use Rattle.streams.specs.Streams.{AreFed, HasReadCounted}
use Rattle.streams.proofs.checking.check.Given as goal

-- the hashers were fed what the source gave, but for the last 32 bytes, which are held back
abbrev pub invariant-chunks : goal.invariant-chunks
invariant-chunks g l = (message : List ℕ) × record {
  counted : length message + l.held ≡ l.total;
  held : l.held ≡ min 32 l.total;
  reads : g.R.Source.has_failed l.input ≡ false;
  kind : hasher_kind l.first ≡ l.fn.kind;
  fed : WasFed l.first message;
  too : AreFed l.fn.other l.second message;
  given : HasReadCounted (g.R.Source.remaining l.fn.input) (g.R.Source.remaining l.input) (message ++ take l.held l.buf) l.total;
}

abbrev pub decreases-chunks : goal.decreases-chunks
decreases-chunks g l = 2 ^ 61 - 1 - l.total
