use Rattle.gix_hash.proofs.Std.{length, map}
use Rattle.repositories.specs.Alternates.{paths_named}
use Rattle.repositories.proofs.Entries.{Names}
use Rattle.repositories.proofs.alternates.alternate_paths.Given as goal

abbrev pub invariant-loop-left : goal.invariant-loop-left
invariant-loop-left g l = Names l.separator (paths_named l.separator l.fn.list) (map (λ path. path.items) l.paths.items) l.left

abbrev pub decreases-loop-left : goal.decreases-loop-left
decreases-loop-left g l = length l.left
