use Rattle.gix_hash.proofs.Std.{◌≡◌, ◌∙◌, ◌-◌, None, Some, arith, map, rules, string_bytes, subst, sym}
use Rattle.repositories.specs.Walks.{each, visit, visit_below, walk_of}
use Rattle.repositories.proofs.Visits.{below_fails, below_more, below_none, each_fails, each_next}
use Rattle.repositories.proofs.walk.Walk.+visit_all.Goals as goal
use Rattle.repositories.proofs.walk.Walk.+visit_all.Goals.{then-levels-gt0+in_ok-visit_all, else-levels-gt0}

pub loop-path-preserved : goal.loop-path-preserved
loop-path-preserved g t c = λ at known.
    let walk = walk_of c.loop-path.self in
    let visited : visit c.args.levels (string_bytes c.path-item.result) walk at ≡ Some (walk_of c.visit.new.self, map string_bytes c.in_ok-alternates.alternates.items) =
    subst (λ path. visit c.args.levels path walk at ≡ Some (walk_of c.visit.new.self, map string_bytes c.in_ok-alternates.alternates.items)) c.deref.ensures (c.in_ok-alternates.ensures at known) in
    let below : visit_below c.args.levels (string_bytes c.path-item.result) walk at ≡ Some (walk_of c.if-levels-gt0.self) = elim c.if-levels-gt0.branch [
      | then-levels-gt0+in_ok-visit_all w ↦ subst (λ self. visit_below c.args.levels (string_bytes c.path-item.result) walk at ≡ Some (walk_of self)) (sym w.self-is)
          (below_more c.args.levels _ walk _ _ _ at w.if-levels-gt0.true visited
          (subst (λ paths. each (visit_below (c.args.levels - 1)) (map string_bytes paths) (walk_of c.visit.new.self) at ≡ Some (walk_of w.visit_all.new.self)) w.deref-then-levels-gt0.ensures.value (w.in_ok-visit_all.ensures at known)))
      | else-levels-gt0 w ↦ subst (λ self. visit_below c.args.levels (string_bytes c.path-item.result) walk at ≡ Some (walk_of self)) (sym w.self-is)
          (below_none c.args.levels _ walk _ _ at (omega arith) visited)
    ] in
    c.loop-path.invariant at known ∙ each_next string_bytes (visit_below c.args.levels) c.args.paths.now c.loop-path.path-index c.path-item.result _ _ at (omega arith) c.path-item.is below

pub returns-in_err-alternates : goal.returns-in_err-alternates
returns-in_err-alternates g t c = λ at known.
    let walk = walk_of c.loop-path.self in
    let stops : visit c.args.levels (string_bytes c.path-item.result) walk at ≡ None → each (visit_below c.args.levels) (map string_bytes c.args.paths.now) (walk_of c.args.self.now) at ≡ None = λ none.
    c.loop-path.invariant at known ∙ each_fails string_bytes (visit_below c.args.levels) c.args.paths.now c.loop-path.path-index c.path-item.result walk at (omega arith) c.path-item.is
    (below_fails c.args.levels _ walk at none) in
    search (rules, stops, c.in_err-alternates.ensures at known, c.deref.ensures)

pub returns-in_err-visit_all : goal.returns-in_err-visit_all
returns-in_err-visit_all g t c = λ at known.
    let walk = walk_of c.loop-path.self in
    let visited : visit c.args.levels (string_bytes c.path-item.result) walk at ≡ Some (walk_of c.visit.new.self, map string_bytes c.in_ok-alternates.alternates.items) =
    subst (λ path. visit c.args.levels path walk at ≡ Some (walk_of c.visit.new.self, map string_bytes c.in_ok-alternates.alternates.items)) c.deref.ensures (c.in_ok-alternates.ensures at known) in
    let stops : each (visit_below (c.args.levels - 1)) (map string_bytes c.in_ok-alternates.alternates.items) (walk_of c.visit.new.self) at ≡ None → each (visit_below c.args.levels) (map string_bytes c.args.paths.now) (walk_of c.args.self.now) at ≡ None = λ none.
    c.loop-path.invariant at known ∙ each_fails string_bytes (visit_below c.args.levels) c.args.paths.now c.loop-path.path-index c.path-item.result walk at (omega arith) c.path-item.is
    (below_more c.args.levels _ walk _ _ _ at c.if-levels-gt0.true visited none) in
    search (rules, stops, c.in_err-visit_all.ensures at known, c.deref-then-levels-gt0.ensures.value)
