use Rattle.gix_hash.proofs.Std.{◌≡◌, [], drop, map, string_bytes}
use Rattle.repositories.specs.Walks.{walk_of, with_paths}
use Rattle.repositories.proofs.walk.Walk.read_paths.Given as goal

abbrev pub invariant-loop-path : goal.invariant-loop-path
invariant-loop-path g l =
    with_paths l.directory (map (λ path. path.items) l.fn.named) (walk_of l.fn.self, [])
    ≡ with_paths l.directory (map (λ path. path.items) (drop l.path-index l.fn.named)) (walk_of l.self, map string_bytes l.paths.items)
