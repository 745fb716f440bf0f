use Rattle.gix_hash.proofs.Std.{◌≡◌, codes, map, string_bytes, take}
use Rattle.std.specs.Path.{path_join}
use Rattle.directory_store.proofs.packs.PackDirectories.of.Given as goal

abbrev pub invariant-loop-directory : goal.invariant-loop-directory
invariant-loop-directory g l = map string_bytes l.paths.items ≡ map (λ path. path_join (string_bytes path) (codes "pack")) (take l.directory-index l.objects)
