use Rattle.gix_hash.proofs.Std.{◌≡◌, map, take, string_bytes}
use Rattle.gix_hash.specs.Words.{id_digits}
use Rattle.directory_store.specs.Stores.{paths_in_all}
use Rattle.directory_store.proofs.store.DirectoryStoreStorePaths.loose_paths.Given as goal

abbrev pub invariant-loop-directory : goal.invariant-loop-directory
invariant-loop-directory g l = map string_bytes l.paths.items ≡ paths_in_all (take l.directory-index l.self.loose.directories.items) (id_digits l.id)
