use Rattle.gix_hash.proofs.Std.{◌≡◌, ◌-◌, ◌≤◌, length, map}
use Rattle.id_lookup.specs.Runs.{IsSortedIds, bound_of}
use Rattle.id_lookup.proofs.assuming_sorted.part_from.Given as goal

abbrev pub invariant-loop-high : goal.invariant-loop-high
invariant-loop-high g l = record {
  from : l.fn.first ≤ l.low;
  in_order : l.low ≤ l.high;
  in_range : l.high ≤ l.len;
  all : l.len ≡ length l.fn.ids;
  above : IsSortedIds (map g.I.Id.digits l.fn.ids) → l.fn.first ≤ bound_of l.bound l.fn.prefix (map g.I.Id.digits l.fn.ids)
      → l.low ≤ bound_of l.bound l.fn.prefix (map g.I.Id.digits l.fn.ids);
}

abbrev pub decreases-loop-high : goal.decreases-loop-high
decreases-loop-high g l = l.len - l.high
