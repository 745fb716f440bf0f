use Rattle.gix_hash.proofs.Std.{◌≡◌, None, Some, map, rules, string_bytes}
use Rattle.repositories.specs.Views.{directory_of}
use Rattle.repositories.specs.Walks.{each, list_at, visit_below, walk_from, walk_of, with_directory}
use Rattle.repositories.proofs.Visits.{walked}
use Rattle.repositories.proofs.walk.Walk.walk_from.Goals as goal

pub returns-in_err-visit_all-2 : goal.returns-in_err-visit_all-2
returns-in_err-visit_all-2 g c = λ at known.
    let real = directory_of c.args.real in
    let given = map string_bytes c.args.given.now in
    let walk = walk_of c.args.self.now in
    let paths = map string_bytes c.in_ok-alternates.alternates.items in
    let first : each (visit_below 6) given (with_directory real walk) at ≡ Some (walk_of c.visit_all.new.self) = search (rules, c.in_ok-push.ensures, c.in_ok-visit_all.ensures at known) in
    let list : list_at real.0 (walk_of c.visit_all.new.self) at ≡ Some (walk_of c.list_at.new.self, paths) = search (rules, c.in_ok-alternates.ensures at known, c.deref.ensures) in
    let stops : each (visit_below 6) paths (walk_of c.list_at.new.self) at ≡ None → walk_from real given walk at ≡ None = λ none. walked real given paths walk _ _ None at first list none in
    search (rules, stops, c.in_err-visit_all-2.ensures at known, c.deref-2.ensures.value)

pub returns : goal.returns
returns g c = λ at known.
    let real = directory_of c.args.real in
    let given = map string_bytes c.args.given.now in
    let walk = walk_of c.args.self.now in
    let paths = map string_bytes c.in_ok-alternates.alternates.items in
    let first : each (visit_below 6) given (with_directory real walk) at ≡ Some (walk_of c.visit_all.new.self) = search (rules, c.in_ok-push.ensures, c.in_ok-visit_all.ensures at known) in
    let list : list_at real.0 (walk_of c.visit_all.new.self) at ≡ Some (walk_of c.list_at.new.self, paths) = search (rules, c.in_ok-alternates.ensures at known, c.deref.ensures) in
    let rest : each (visit_below 6) paths (walk_of c.list_at.new.self) at ≡ Some (walk_of c.visit_all-2.new.self) = search (rules, c.in_ok-visit_all-2.ensures at known, c.deref-2.ensures.value) in
    walked real given paths walk _ _ _ at first list rest
