use Rattle.gix_hash.proofs.Std.{◌≡◌, ◌-◌, ◌^◌, List, ℕ, false}
use Rattle.streams.specs.Streams.{HasReadCounted}
use Rattle.oidtool_commands.proofs.searching.drain.Given as goal

-- these bytes were read
abbrev pub invariant-chunks : goal.invariant-chunks
invariant-chunks g l = (bytes : List ℕ) × record {
  given : HasReadCounted (g.R.Source.remaining l.fn.input) (g.R.Source.remaining l.input) bytes l.total;
  reads : g.R.Source.has_failed l.input ≡ false;
}

abbrev pub decreases-chunks : goal.decreases-chunks
decreases-chunks g l = 2 ^ 61 - 1 - l.total
