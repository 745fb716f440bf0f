use Rattle.gix_hash.proofs.Std.{◌<◌}
use Rattle.repositories.proofs.state.FileState.of_missing.Given as goal

abbrev pub invariant-loop-above : goal.invariant-loop-above
invariant-loop-above g l = 0 < l.missing
