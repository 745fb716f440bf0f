use Rattle.gix_hash.proofs.Std.{◌≡◌, ◌+◌, ◌<◌, length, sum_by}
use Rattle.object_store.proofs.FoundAt.{AreFoundAt}
use Rattle.object_store.proofs.look_ups.look_up_each.Given as goal

abbrev pub invariant-loop-place : goal.invariant-loop-place
invariant-loop-place g l = record {
  parts : l.parts ≡ l.initial.parts;
  store : l.parts.now ≡ l.fn.store;
  found : AreFoundAt (g.L.LookUp.finds l.look_up l.fn.store) g.L.LookUp.size l.prefixes l.places.items l.place l.found.items;
  room : 1 < length l.prefixes → l.room + sum_by g.L.LookUp.size l.found.items ≡ l.fn.most;
}
