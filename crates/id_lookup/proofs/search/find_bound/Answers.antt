use Rattle.gix_hash.proofs.Std.{◌+◌, ◌-◌, ◌/◌, sym, ap, ◌∙◌, arith, ltb-true, ltb-false}
use Rattle.id_lookup.specs.Runs.{Probing}
use Rattle.id_lookup.proofs.Binary.{bits-half}
use Rattle.id_lookup.proofs.Kept.{kept}
use Rattle.id_lookup.proofs.Placed.{before_bound_at}
use Rattle.id_lookup.proofs.search.find_bound.Goals as goal

pub ask-requires-clause-room : goal.ask-requires-clause-room
ask-requires-clause-room g c =
    let some = bits-half (c.loop-low.high - c.loop-low.low) 0 (omega arith) (omega arith) in
    omega arith

pub loop-low-preserved-then-comes_after : goal.loop-low-preserved-then-comes_after
loop-low-preserved-then-comes_after g c =
    let middle = c.loop-low.low + (c.loop-low.high - c.loop-low.low) / 2 in
    let answer = rw c.loop-low.invariant.same at c.ask.ensures.answer in
    let tells = before_bound_at c.args.bound c.args.probes.now.prefix c.args.probes.now.ids c.requires.can_probe.sorted middle (omega arith) c.ask.result answer in
    let reached = ltb-true middle _ (sym tells ∙ sym c.comes_after.ensures ∙ c.if-comes_after.true) in
    let fewer = bits-half (c.loop-low.high - c.loop-low.low) (c.loop-low.high - (middle + 1)) (omega arith) (omega arith) in
    let one = ap (λ (p : Probing). p.asked) c.ask.ensures.counted in
    record {
      above = omega arith;
      below = c.loop-low.invariant.below;
      in_range = c.loop-low.invariant.in_range;
      asked = omega (arith, c.loop-low.invariant.asked);
      same = kept c.args.probes.now c.loop-low.probes c.ask.new.self _ c.loop-low.invariant.same c.ask.ensures.counted;
    }

pub loop-low-preserved : goal.loop-low-preserved
loop-low-preserved g c =
    let middle = c.loop-low.low + (c.loop-low.high - c.loop-low.low) / 2 in
    let answer = rw c.loop-low.invariant.same at c.ask.ensures.answer in
    let tells = before_bound_at c.args.bound c.args.probes.now.prefix c.args.probes.now.ids c.requires.can_probe.sorted middle (omega arith) c.ask.result answer in
    let passed = ltb-false middle _ (sym tells ∙ sym c.comes_after.ensures ∙ c.if-comes_after.false) in
    let fewer = bits-half (c.loop-low.high - c.loop-low.low) (middle - c.loop-low.low) (omega arith) (omega arith) in
    let one = ap (λ (p : Probing). p.asked) c.ask.ensures.counted in
    record {
      above = c.loop-low.invariant.above;
      below = passed;
      in_range = omega (arith, c.loop-low.invariant.in_range);
      asked = omega (arith, c.loop-low.invariant.asked);
      same = kept c.args.probes.now c.loop-low.probes c.ask.new.self _ c.loop-low.invariant.same c.ask.ensures.counted;
    }
