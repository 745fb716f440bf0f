use Rattle.id_digits.proofs.Std.{ℕ, add-one, arith, cond-false, cond-true, eq-eqb, ne_eqb}
use Rattle.id_digits.proofs.CommonBytes.{same_byte, other_byte, no_more}
use Rattle.id_digits.proofs.common.common_digits.Goals as goal

pub returns-then-same_high_half : goal.returns-then-same_high_half
returns-then-same_high_half c =
    let rest = other_byte c.args.one.now c.args.other.now c.loop-at.at (omega arith) (omega arith) c.if-one-at.true in
    let one = cond-true {A = ℕ} _ 1 0 (eq-eqb _ _ c.if-same_high_half.true) in
    omega (arith, c.loop-at.invariant, rest, one)

pub returns-else-same_high_half : goal.returns-else-same_high_half
returns-else-same_high_half c =
    let rest = other_byte c.args.one.now c.args.other.now c.loop-at.at (omega arith) (omega arith) c.if-one-at.true in
    let none = cond-false {A = ℕ} _ 1 0 (ne_eqb _ _ c.if-same_high_half.false) in
    omega (arith, c.loop-at.invariant, rest, none)

pub loop-at-preserved : goal.loop-at-preserved
loop-at-preserved c =
    let more = same_byte c.args.one.now c.args.other.now c.loop-at.at (omega arith) (omega arith) c.if-one-at.false in
    rw add-one (omega (arith, c.loop-at.invariant, more))

pub returns : goal.returns
returns c =
    let none = no_more c.args.one.now c.args.other.now c.loop-at.at (omega arith) in
    omega (arith, c.loop-at.invariant, none)
