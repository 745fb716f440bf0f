use Rattle.gix_hash.proofs.Std.{◌≡◌, ℕ, map, range_with_len}
use Rattle.object_store.proofs.look_ups.in_order.Given as goal

abbrev pub invariant-loop-at : goal.invariant-loop-at
invariant-loop-at g l = map (λ (place : ℕ × ℕ). place.1) l.places.items ≡ range_with_len 0 l.at
