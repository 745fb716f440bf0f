-- A walk over directories and their alternates, path by path.
use Rattle.gix_hash.proofs.Std.{◌≡◌, ◌↔◌, ◌∙◌, ◌+◌, ◌-◌, ◌<◌, ◌∷◌, ◌++◌, ◌==◌, [], Bool, IsTrue, List, None, Option, Some, add-one, ap, ap₂, append-nil, arith, drop, drop-cons, false, get_or, if◌then◌else◌, length, map, refl, suc, sym, true, zero, ℕ}
use Rattle.std.specs.Path.{path_join}
use Rattle.std.specs.Result.{result_ok}
use Rattle.std.specs.Str.{IsUtf8, is_utf8}
use Rattle.std.proofs.lemmas.Str.{IsUtf8-from_is_utf8, is_utf8-from_IsUtf8}
use Rattle.repositories.specs.Answers.{◌>>=◌, Answers}
use Rattle.repositories.specs.Lookups.{real_directory}
use Rattle.repositories.specs.Walks.{Walk, each, list_at, visit, visit_below, skip, walk_from, walk_over, with_directory, with_path, with_paths}
use Rattle.repositories.specs.declared.files.FileNumber.{FileNumber}

-- a test for UTF-8 is its test by definition
pub text_is : (b : Bool) (path : List ℕ) → IsTrue b ↔ IsUtf8 path → b ≡ is_utf8 path
text_is true path is = sym (is_utf8-from_IsUtf8 path (is.0 refl))
text_is false path is = go (is_utf8 path) refl
  where
    go : (test : Bool) → is_utf8 path ≡ test → false ≡ is_utf8 path
    go false none = sym none
    go true text = is.1 (IsUtf8-from_is_utf8 path text) ∙ sym text

-- a path of a list was read that is not empty
pub reads : (directory path : List ℕ) (walk next : Walk) (old new : List (List ℕ)) (b : Bool) → false ≡ (length path == 0) → IsTrue b ↔ IsUtf8 path → new ≡ old ++ (if b then path_join directory path ∷ [] else []) → next ≡ (if b then walk else skip walk)
    → ◌≡◌ {A = Walk × List (List ℕ)} (next, new) (with_path directory path (walk, old))
reads directory path walk next old new b some iff new_is next_is =
    ap₂ (λ next new. (next, new)) next_is new_is ∙ both b ∙ ap (λ test. if test then (walk, old ++ path_join directory path ∷ []) else (skip walk, old)) (text_is b path iff)
    ∙ ap (λ empty. if empty then (walk, old) else (if is_utf8 path then (walk, old ++ path_join directory path ∷ []) else (skip walk, old))) some
  where
    both : (b : Bool) → ◌≡◌ {A = Walk × List (List ℕ)} ((if b then walk else skip walk), old ++ (if b then path_join directory path ∷ [] else [])) (if b then (walk, old ++ path_join directory path ∷ []) else (skip walk, old))
    both true = refl
    both false = ap (λ new. (skip walk, new)) (append-nil old)

drop_next : {X : Type 0} (xs : List X) (i : ℕ) (x : X) → i < length xs → x ≡ get_or xs i x → drop i xs ≡ x ∷ drop (i + 1) xs
drop_next xs i x in_range is = drop-cons xs i x in_range ∙ ap (λ x. x ∷ drop (suc i) xs) (sym is) ∙ ap (λ n. x ∷ drop n xs) (sym (add-one i))

-- one more path of a list was read
pub read_next : {X : Type 0} (path_of : X → List ℕ) (directory : List ℕ) (named : List X) (i : ℕ) (path : X) (found next : Walk × List (List ℕ)) → i < length named → path ≡ get_or named i path
    → next ≡ with_path directory (path_of path) found → with_paths directory (map path_of (drop i named)) found ≡ with_paths directory (map path_of (drop (i + 1) named)) next
read_next path_of directory named i path found next in_range is read =
    ap (λ left. with_paths directory (map path_of left) found) (drop_next named i path in_range is) ∙ ap (with_paths directory (map path_of (drop (i + 1) named))) (sym read)

-- one more path was visited
pub each_next : {X : Type 0} (path_of : X → List ℕ) (visit_one : List ℕ → Walk → Answers → Option Walk) (paths : List X) (i : ℕ) (path : X) (walk next : Walk) (at : Answers) → i < length paths → path ≡ get_or paths i path
    → visit_one (path_of path) walk at ≡ Some next → each visit_one (map path_of (drop i paths)) walk at ≡ each visit_one (map path_of (drop (i + 1) paths)) next at
each_next path_of visit_one paths i path walk next at in_range is visited =
    ap (λ left. each visit_one (map path_of left) walk at) (drop_next paths i path in_range is) ∙ ap (λ found. found >>= λ walk. each visit_one (map path_of (drop (i + 1) paths)) walk at) visited

-- what was visited next failed
pub each_fails : {X : Type 0} (path_of : X → List ℕ) (visit_one : List ℕ → Walk → Answers → Option Walk) (paths : List X) (i : ℕ) (path : X) (walk : Walk) (at : Answers) → i < length paths → path ≡ get_or paths i path
    → visit_one (path_of path) walk at ≡ None → each visit_one (map path_of (drop i paths)) walk at ≡ None
each_fails path_of visit_one paths i path walk at in_range is fails =
    ap (λ left. each visit_one (map path_of left) walk at) (drop_next paths i path in_range is) ∙ ap (λ found. found >>= λ walk. each visit_one (map path_of (drop (i + 1) paths)) walk at) fails

-- a directory was visited where no level is left for its alternates, or they were visited as well
pub below_none : (levels : ℕ) (path : List ℕ) (walk next : Walk) (paths : List (List ℕ)) (at : Answers) → levels ≡ 0 → visit levels path walk at ≡ Some (next, paths) → visit_below levels path walk at ≡ Some next
unfolding visit_below
below_none zero path walk next paths at none visited = ap (λ found. found >>= λ found. Some found.0) visited
below_none (suc less) path walk next paths at none visited = absurd (omega arith)

pub below_more : (levels : ℕ) (path : List ℕ) (walk mid : Walk) (next : Option Walk) (paths : List (List ℕ)) (at : Answers) → 0 < levels → visit levels path walk at ≡ Some (mid, paths) → each (visit_below (levels - 1)) paths mid at ≡ next → visit_below levels path walk at ≡ next
unfolding visit_below
below_more zero path walk mid next paths at some visited more = absurd (omega arith)
below_more (suc less) path walk mid next paths at some visited more =
    ap (λ found. found >>= λ found. each (visit_below less) found.1 found.0 at) visited ∙ ap (λ n. each (visit_below n) paths mid at) (let e : less ≡ suc less - 1 = omega arith in e) ∙ more

pub below_fails : (levels : ℕ) (path : List ℕ) (walk : Walk) (at : Answers) → visit levels path walk at ≡ None → visit_below levels path walk at ≡ None
unfolding visit_below
below_fails zero path walk at fails = ap (λ found. found >>= λ found. Some found.0) fails
below_fails (suc less) path walk at fails = ap (λ found. found >>= λ found. each (visit_below less) found.1 found.0 at) fails

-- a directory with the alternates of the environment was visited, and its list was read
pub walked : (real : List ℕ × Option FileNumber) (given paths : List (List ℕ)) (walk mid listed : Walk) (found : Option Walk) (at : Answers) → each (visit_below 6) given (with_directory real walk) at ≡ Some mid → list_at real.0 mid at ≡ Some (listed, paths)
    → each (visit_below 6) paths listed at ≡ found → walk_from real given walk at ≡ found
walked real given paths walk mid listed found at first list rest =
    ap (λ found. found >>= λ walk. list_at real.0 walk at >>= λ found. each (visit_below 6) found.1 found.0 at) first ∙ ap (λ found. found >>= λ found. each (visit_below 6) found.1 found.0 at) list ∙ rest

-- a walk from the directory that a path leads to failed
pub over_fails : (objects text : List ℕ) (given paths : List (List ℕ)) (walk : Walk) (real : List ℕ × Option FileNumber) (at : Answers) → text ≡ objects → paths ≡ given → walk ≡ record { paths = []; numbers = []; skipped = 0; looked = [] }
    → result_ok (real_directory text at) ≡ Some real → walk_from real paths walk at ≡ None → walk_over objects given at ≡ None
over_fails objects text given paths walk real at same_text same_paths empty is fails =
    let walk_at = λ (real : List ℕ × Option FileNumber). walk_from real given (record { paths = []; numbers = []; skipped = 0; looked = [] }) at in
    ap (λ text. result_ok (real_directory text at) >>= walk_at) (sym same_text) ∙ ap (λ found. found >>= walk_at) is
    ∙ ap₂ (λ paths walk. walk_from real paths walk at) (sym same_paths) (sym empty) ∙ fails
