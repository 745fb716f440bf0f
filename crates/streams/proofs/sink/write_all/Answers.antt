use Rattle.gix_hash.proofs.Std.{arith, rules}
use Rattle.streams.proofs.Taking.{Appends-chunk, AppendsBeginning-take, AppendsBeginning-none, not_failed}
use Rattle.streams.proofs.sink.write_all.Goals as goal

pub loop-at-preserved : goal.loop-at-preserved
loop-at-preserved g c = (
  omega (arith, c.in-Ok.ensures.bound),
  Appends-chunk _ _ _ c.loop-at.at c.in-Ok.count c.args.bytes.now c.loop-at.invariant.1 c.in-Ok.ensures.bytes,
  not_failed c.in-Ok.count _ _ _ c.if-count-eq0.false c.loop-at.invariant.2 c.in-Ok.ensures.failed,
)

pub returns-then-count-eq0 : goal.returns-then-count-eq0
returns-then-count-eq0 g c = record {
  written = tt;
  not_failed = tt;
  part = AppendsBeginning-none _ _ _ c.loop-at.at c.in-Ok.count c.args.bytes.now c.if-count-eq0.true c.loop-at-test.true c.loop-at.invariant.1 c.in-Ok.ensures.bytes;
  failed = search rules;
}

pub returns-in_default : goal.returns-in_default
returns-in_default g c = record {
  written = tt;
  not_failed = tt;
  part = AppendsBeginning-take _ _ _ c.loop-at.at c.args.bytes.now c.loop-at-test.true c.loop-at.invariant.1 c.in_default.ensures.bytes;
  failed = search rules;
}
