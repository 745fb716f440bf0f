use Rattle.gix_hash.proofs.Std.{◌≡◌, length, sum_by}
use Rattle.object_store.proofs.look_ups.placeholders.Given as goal

abbrev pub invariant-loop-at : goal.invariant-loop-at
invariant-loop-at g l = (length l.found.items ≡ l._at) × (sum_by g.L.LookUp.size l.found.items ≡ 0)
