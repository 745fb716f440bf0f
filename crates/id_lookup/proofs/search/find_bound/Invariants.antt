use Rattle.gix_hash.proofs.Std.{◌≡◌, ◌+◌, ◌-◌, ◌≤◌}
use Rattle.id_lookup.specs.Runs.{bits, bound_of}
use Rattle.id_lookup.proofs.search.find_bound.Given as goal

abbrev pub invariant-loop-low : goal.invariant-loop-low
invariant-loop-low g l = record {
  above : l.low ≤ bound_of l.bound l.fn.probes.prefix l.fn.probes.ids;
  below : bound_of l.bound l.fn.probes.prefix l.fn.probes.ids ≤ l.high;
  in_range : l.high ≤ l.fn.high;
  asked : l.probes.asked + bits (l.high - l.low) ≤ l.fn.probes.asked + bits (l.fn.high - l.fn.low);
  same : l.probes ≡ record l.fn.probes { asked = l.probes.asked };
}

abbrev pub decreases-loop-low : goal.decreases-loop-low
decreases-loop-low g l = l.high - l.low
