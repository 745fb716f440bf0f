use Rattle.gix_hash.proofs.Std.{◌≡◌, ℕ, arith, length, map, subst, range_with_len, IsPermutation, IsPermutation-map}
use Rattle.object_store.proofs.Places.{in_range, one_more}
use Rattle.object_store.proofs.look_ups.in_order.Goals as goal

pub loop-at-preserved : goal.loop-at-preserved
loop-at-preserved g c = one_more c.loop-at.at c.loop-at.places.items _ c.key_of.result c.in_ok-push.ensures.items c.loop-at.invariant

pub returns : goal.returns
returns g c =
    let all : c.loop-at.at ≡ length c.args.prefixes.now = omega (arith, c.loop-at-test.false, c.loop-at.auto.at-end) in
    let sorted = c.sort_unstable.new.self.items in
    let order = subst (λ (n : ℕ). IsPermutation (range_with_len 0 n) (map (λ (place : ℕ × ℕ). place.1) sorted)) all
    (rw (← c.loop-at.invariant) (IsPermutation-map (λ (place : ℕ × ℕ). place.1) c.loop-at.places.items sorted c.sort_unstable.ensures.permutation)) in
    record { in_range = in_range (length c.args.prefixes.now) sorted order; order = order }
