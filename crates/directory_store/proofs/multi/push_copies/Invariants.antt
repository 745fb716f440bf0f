use Rattle.gix_hash.proofs.Std.{◌≡◌, ◌++◌, map, take}
use Rattle.directory_store.specs.Stores.{index_path}
use Rattle.directory_store.proofs.multi.push_copies.Given as goal

abbrev pub invariant-loop-paths : goal.invariant-loop-paths
invariant-loop-paths l = map index_path l.to.items ≡ map index_path l.fn.to.items ++ map index_path (take l.paths-index l.from)
