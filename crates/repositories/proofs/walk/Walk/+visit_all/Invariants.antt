use Rattle.gix_hash.proofs.Std.{◌≡◌, drop, map, string_bytes}
use Rattle.repositories.specs.Answers.{IfKnown}
use Rattle.repositories.specs.Walks.{each, visit_below, walk_of}
use Rattle.repositories.proofs.walk.Walk.+visit_all.Given as goal

abbrev pub decreases-visit_all : goal.decreases-visit_all
decreases-visit_all g l = l.levels

abbrev pub invariant-loop-path : goal.invariant-loop-path
invariant-loop-path g l =
    IfKnown (λ at. each (visit_below l.levels) (map string_bytes l.fn.paths) (walk_of l.fn.self) at ≡ each (visit_below l.levels) (map string_bytes (drop l.path-index l.fn.paths)) (walk_of l.self) at) (g.R.Directories.answers l.rt)
