use Rattle.gix_hash.proofs.Std.{◌≤◌, map}
use Rattle.id_lookup.specs.Runs.{IsSortedIds, bound_of}
use Rattle.id_lookup.specs.declared.search.Bound.TheVariants.{Start}
use Rattle.id_lookup.proofs.assuming_sorted.part_up_to.Given as goal

abbrev pub invariant-loop-low : goal.invariant-loop-low
invariant-loop-low g l = record {
  in_order : l.low ≤ l.high;
  in_range : l.high ≤ l.fn.last;
  below : IsSortedIds (map g.I.Id.digits l.fn.ids) → bound_of Start l.fn.prefix (map g.I.Id.digits l.fn.ids) ≤ l.fn.last
      → bound_of Start l.fn.prefix (map g.I.Id.digits l.fn.ids) ≤ l.high;
}

abbrev pub decreases-loop-low : goal.decreases-loop-low
decreases-loop-low g l = l.low
