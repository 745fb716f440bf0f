use Rattle.std.proofs.Common.{◌≡◌, ◌≤◌, false, length}
use Rattle.git_config.specs.Grammar.{quoted}
use Rattle.git_config.proofs.syntax.read_quoted.Given as goal

abbrev pub invariant-loop-left : goal.invariant-loop-left
invariant-loop-left l = record {
  fewer : length l.left ≤ length l.fn.text;
  same : quoted l.escaped l.name.items l.left ≡ quoted false l.fn.name.items l.fn.text;
}

abbrev pub decreases-loop-left : goal.decreases-loop-left
decreases-loop-left l = length l.left
