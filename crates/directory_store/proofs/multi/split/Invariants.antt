use Rattle.gix_hash.proofs.Std.{map, take}
use Rattle.directory_store.specs.Stores.{index_path}
use Rattle.directory_store.proofs.Covers.{IsSplitSoFar}
use Rattle.directory_store.proofs.multi.split.Given as goal

abbrev pub invariant-loop-paths : goal.invariant-loop-paths
invariant-loop-paths l = IsSplitSoFar (map index_path (take l.paths-index l.listed)) (map index_path l.named) (map index_path l.rest) (map index_path l.left.items)
