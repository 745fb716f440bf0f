use Rattle.std.proofs.Common.{◌≡◌, ◌<◌, ◌^◌, length}
use Rattle.git_config.specs.Values.{numeral, numeral_after}
use Rattle.git_config.proofs.values.numeral.Given as goal

abbrev pub invariant-loop-left : goal.invariant-loop-left
invariant-loop-left l = record {
  same : numeral_after l.base l.number l.left ≡ numeral l.fn.base l.fn.digits;
  bound : l.number < 2 ^ 31;
}

abbrev pub decreases-loop-left : goal.decreases-loop-left
decreases-loop-left l = length l.left
