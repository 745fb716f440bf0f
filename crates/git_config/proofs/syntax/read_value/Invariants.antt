use Rattle.std.proofs.Common.{◌≡◌, ◌≤◌, false, [], length}
use Rattle.git_config.specs.Grammar.{value}
use Rattle.git_config.proofs.syntax.read_value.Given as goal

abbrev pub invariant-loop-left : goal.invariant-loop-left
invariant-loop-left l = record {
  fewer : length l.left ≤ length l.fn.text;
  same : value l.in_quotes l.escaped l.bytes.items l.kept l.left ≡ value false false [] 0 l.fn.text;
}

abbrev pub decreases-loop-left : goal.decreases-loop-left
decreases-loop-left l = length l.left
