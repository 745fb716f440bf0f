use Rattle.gix_hash.proofs.Std.{◌≡◌, ◌∙◌, List, arith, map, rules, string_bytes, ℕ}
use Rattle.repositories.specs.Walks.{Walk, walk_of, with_path}
use Rattle.repositories.proofs.Visits.{read_next}
use Rattle.repositories.proofs.walk.Walk.read_paths.Goals as goal

pub loop-path-preserved : goal.loop-path-preserved
loop-path-preserved g c =
    let read : ◌≡◌ {A = Walk × List (List ℕ)} (walk_of c.read_path.new.self, map string_bytes c.read_path.new.paths.items) (with_path c.args.directory.now c.path-item.result.items (walk_of c.loop-path.self, map string_bytes c.loop-path.paths.items)) = search rules in
    c.loop-path.invariant ∙ read_next (λ path. path.items) c.args.directory.now c.args.named.now c.loop-path.path-index c.path-item.result _ _ (omega arith) c.path-item.is read
