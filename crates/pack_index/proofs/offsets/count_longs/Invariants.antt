use Rattle.gix_hash.proofs.Std.{◌≡◌, ◌≤◌}
use Rattle.pack_index.specs.Format.{Each, IsNextLong, longs_before}
use Rattle.pack_index.proofs.offsets.count_longs.Given as goal

abbrev pub invariant-loop-at : goal.invariant-loop-at
invariant-loop-at l = record {
  counted : l.longs ≡ longs_before l.kind l.bytes l.at;
  small : l.longs ≤ l.at;
  order : Each (IsNextLong l.kind l.bytes) l.at;
}
