use Rattle.gix_hash.proofs.Std.{◌≡◌, map, take}
use Rattle.std.specs.Path.{path_join}
use Rattle.directory_store.specs.Stores.{index_path}
use Rattle.directory_store.proofs.multi.named_in.Given as goal

abbrev pub invariant-loop-name : goal.invariant-loop-name
invariant-loop-name g l = map index_path l.named.items ≡ map (path_join l.directory) (map (λ name. name.now) (take l.name-index l.name-items))
