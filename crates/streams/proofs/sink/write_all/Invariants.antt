use Rattle.gix_hash.proofs.Std.{◌≡◌, ◌≤◌, ◌-◌, false, length, take, Appends}
use Rattle.streams.proofs.sink.write_all.Given as goal

abbrev pub invariant-loop-at : goal.invariant-loop-at
invariant-loop-at g l = (l.at ≤ length l.bytes)
    × Appends (g.W.Sink.taken l.fn.out) (g.W.Sink.taken l.out) (take l.at l.bytes)
    × (g.W.Sink.has_failed l.out ≡ false)

abbrev pub decreases-loop-at : goal.decreases-loop-at
decreases-loop-at g l = length l.bytes - l.at
