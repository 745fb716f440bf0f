use Rattle.gix_hash.proofs.Std.{◌≡◌, ◌+◌, length, take, sum_by}
use Rattle.object_store.proofs.look_ups.LocatingLookUp.left.Given as goal

abbrev pub invariant-loop-located : goal.invariant-loop-located
invariant-loop-located g l = l.left + sum_by (λ located. length located.locations.items) (take l.located-index l.ids.items) ≡ l.room
