use Rattle.gix_hash.proofs.Std.{All}
use Rattle.directory_store.specs.Stores.{IsListedPack}
use Rattle.directory_store.proofs.packs.first_gone.Given as goal

abbrev pub invariant-loop-paths : goal.invariant-loop-paths
invariant-loop-paths l = All (IsListedPack l.listed) l.left → All (IsListedPack l.listed) l.earlier
