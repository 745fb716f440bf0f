use Rattle.gix_hash.proofs.Std.{◌-◌, ◌≤◌, map}
use Rattle.id_lookup.specs.Runs.{IsSortedIds, bound_of}
use Rattle.id_lookup.proofs.assuming_sorted.bound_assuming_sorted.Given as goal

abbrev pub invariant-loop-low : goal.invariant-loop-low
invariant-loop-low g l = record {
  above : l.fn.low ≤ l.low;
  in_order : l.low ≤ l.high;
  below : l.high ≤ l.fn.high;
  value : IsSortedIds (map g.I.Id.digits l.fn.ids) → l.fn.low ≤ bound_of l.bound l.fn.prefix (map g.I.Id.digits l.fn.ids) → bound_of l.bound l.fn.prefix (map g.I.Id.digits l.fn.ids) ≤ l.fn.high
      → (l.low ≤ bound_of l.bound l.fn.prefix (map g.I.Id.digits l.fn.ids)) × (bound_of l.bound l.fn.prefix (map g.I.Id.digits l.fn.ids) ≤ l.high);
}

abbrev pub decreases-loop-low : goal.decreases-loop-low
decreases-loop-low g l = l.high - l.low
