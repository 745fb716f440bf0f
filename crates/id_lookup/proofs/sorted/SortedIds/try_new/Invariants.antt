use Rattle.gix_hash.proofs.Std.{◌≡◌, map, take, nat_cmp, is_lt, slice_cmp, IsSortedWithin}
use Rattle.id_lookup.specs.Runs.{least_hex_len}
use Rattle.id_lookup.proofs.sorted.SortedIds.try_new.Given as goal

abbrev pub invariant-loop-at : goal.invariant-loop-at
invariant-loop-at g l = record {
  sorted : IsSortedWithin (λ a b. is_lt (slice_cmp nat_cmp a b)) (map g.I.Id.digits l.ids) 0 l.at;
  least : l.min_hex_len ≡ least_hex_len (take l.at (map g.I.Id.digits l.ids));
}
