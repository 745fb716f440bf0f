-- An object directory and its alternates, as Git links them (object-file.c): by what directories and files answer.
use Rattle.std.specs.Prelude.{◌≡◌, ◌<◌, ℕ, zero, suc, ◌++◌, ◌∷◌, ◌&&◌, ◌+◌, ◌==◌, [], Bool, true, Err, List, None, Ok, Option, Some, bytes_eq, codes, if◌then◌else◌, length, map, option_map, option_to_list, string_bytes, unwrap_or}
use Rattle.std.specs.List.{list_any}
use Rattle.std.specs.Path.{path_join}
use Rattle.std.specs.Result.{result_ok}
use Rattle.std.specs.Str.{is_utf8}
use Rattle.repositories.specs.Alternates.{paths_named}
use Rattle.repositories.specs.Answers.{◌>>=◌, Answers}
use Rattle.repositories.specs.Lookups.{file_number_at, if_there, is_directory, real_directory}
use Rattle.repositories.specs.declared.files.FileNumber.{FileNumber}
use Rattle.repositories.specs.declared.look.Look.{Look}
use Rattle.repositories.specs.declared.look.Seen.{Seen}
use Rattle.repositories.specs.declared.look.Seen.TheVariants.{Directory, DirectoryIn, State, Unusable}
use Rattle.repositories.specs.declared.object_directories.ObjectDirectories.{ObjectDirectories}
use Rattle.repositories.specs.declared.state.FileState.{FileState}
use Rattle.repositories.specs.declared.walk.Walk.{Walk as AWalk}

-- a walk as far as it has come: the paths of the directories, the numbers of those whose absolute paths are not UTF-8, how many paths were skipped, and which were looked at
pub record Walk : Type 0 where
  pub paths : List (List ℕ)
  pub numbers : List FileNumber
  pub skipped : ℕ
  pub looked : List (List ℕ)

-- whether a directory is there already: by its number if it has one, or else by its path
abbrev pub has : List ℕ × Option FileNumber → Walk → Bool
has (path, Some number) walk = list_any (λ other. other.dev == number.dev && other.ino == number.ino) walk.numbers
has (path, None) walk = list_any (λ other. bytes_eq other path) walk.paths

-- the walk with a directory
abbrev pub with_directory : List ℕ × Option FileNumber → Walk → Walk
with_directory real walk = record { paths = walk.paths ++ real.0 ∷ []; numbers = walk.numbers ++ option_to_list real.1; skipped = walk.skipped; looked = walk.looked }

-- the walk with a path that is skipped
abbrev pub skip : Walk → Walk
skip walk = record { paths = walk.paths; numbers = walk.numbers; skipped = walk.skipped + 1; looked = walk.looked }

-- the walk with a path that was looked at
abbrev pub look_at : List ℕ → Walk → Walk
look_at path walk = record { paths = walk.paths; numbers = walk.numbers; skipped = walk.skipped; looked = walk.looked ++ path ∷ [] }

-- the walk with a path that is skipped since it leads to no directory. An empty one is not looked at
abbrev pub skip_unusable : List ℕ → Walk → Walk
skip_unusable path walk = if length path == 0 then skip walk else skip (look_at path walk)

-- the state of what a path leads to, or none if there is nothing
abbrev pub state_at : List ℕ → Answers → Option (Option FileState)
state_at path at = if_there (at.look path) >>= λ found. Some (option_map (λ found. found.state) found)

-- a path, or that of the current directory if it is empty
abbrev pub or_here : List ℕ → List ℕ
or_here path = if length path == 0 then codes "." else path

-- a state is that of what a path leads to, or one in which names are missing if that is nothing
abbrev pub IsStateOf : List ℕ → FileState → Answers → Type 0
IsStateOf path state at = elim (state_at path at) [
  | Some (Some found) ↦ state ≡ found
  | Some None ↦ 0 < state.missing
  | None ↦ ⊥
]

-- a path leads to what was seen there: to the directory of this number, to a directory in this state, to what is in this state, or to no directory, or to nothing
abbrev pub IsSeen : Answers → Look → Type 0
IsSeen at look = let path = string_bytes look.path in elim look.seen [
  | Directory number ↦ (is_directory path at ≡ Some true) × (file_number_at path at ≡ Some number)
  | DirectoryIn state ↦ (is_directory path at ≡ Some true) × (state_at path at ≡ Some (Some state))
  | State state ↦ state_at path at ≡ Some state
  | Unusable ↦ result_ok (real_directory path at) ≡ None
]

-- the text of a list of alternates, which is empty if there is none
abbrev pub text_at : List ℕ → Answers → Option (List ℕ)
text_at list at = if_there (at.look list) >>= λ found. elim found [
  | None ↦ Some []
  | Some found ↦ if_there (at.bytes list) >>= λ text. Some (unwrap_or text [])
]

-- a walk, and the paths of a list so far, with one more path, which is relative to the directory of the list. An empty path is that directory, and one that is not UTF-8 is skipped
abbrev pub with_path : List ℕ → List ℕ → Walk × List (List ℕ) → Walk × List (List ℕ)
with_path directory path found =
    if length path == 0 then found else
    if is_utf8 path then (found.0, found.1 ++ path_join directory path ∷ []) else (skip found.0, found.1)

-- a walk, and the paths of a list so far, with more paths of the list
abbrev pub with_paths : List ℕ → List (List ℕ) → Walk × List (List ℕ) → Walk × List (List ℕ)
with_paths directory [] found = found
with_paths directory (path ∷ paths) found = with_paths directory paths (with_path directory path found)

-- the paths in the list of alternates of a directory, and the walk that looked at the list, with those of them that are skipped
abbrev pub list_at : List ℕ → Walk → Answers → Option (Walk × List (List ℕ))
list_at directory walk at =
    let list = path_join directory (codes "info/alternates") in text_at list at >>= λ text. Some (with_paths directory (paths_named 10 text) (look_at list walk, []))

-- the walk with the directory that a path leads to, and the paths in its list. There are none if it is there already, or if it is skipped, since it cannot be read or no level is left
abbrev pub visit : ℕ → List ℕ → Walk → Answers → Option (Walk × List (List ℕ))
visit levels path walk at = elim (real_directory path at) [
  | Err kind ↦ Some (skip_unusable path walk, [])
  | Ok real ↦
      let walk = look_at path walk in
      if has real walk then Some (walk, []) else if levels == 0 then Some (skip walk, [])
      else (list_at real.0 walk at >>= λ found. Some (with_directory real found.0, found.1))
]

-- the walk after visits of some paths, one after the other
abbrev pub each : (List ℕ → Walk → Answers → Option Walk) → List (List ℕ) → Walk → Answers → Option Walk
each visit [] walk at = Some walk
each visit (path ∷ paths) walk at = visit path walk at >>= λ walk. each visit paths walk at

-- the walk with the directory that a path leads to, and its alternates: this many levels in all
unfoldable pub visit_below : ℕ → List ℕ → Walk → Answers → Option Walk
visit_below zero path walk at = visit 0 path walk at >>= λ found. Some found.0
visit_below (suc levels) path walk at = visit (suc levels) path walk at >>= λ found. each (visit_below levels) found.1 found.0 at

-- an object directory, its alternates that the environment gives, and those of its list, each with its alternates, which are nested up to 5 times
abbrev pub walk_from : List ℕ × Option FileNumber → List (List ℕ) → Walk → Answers → Option Walk
walk_from real given walk at =
    each (visit_below 6) given (with_directory real walk) at >>= λ walk. list_at real.0 walk at >>= λ found. each (visit_below 6) found.1 found.0 at

-- some paths with this one in the place of the first
abbrev pub with_first : List ℕ → List (List ℕ) → List (List ℕ)
with_first path [] = []
with_first path (first ∷ rest) = path ∷ rest

-- the walk over an object directory and its alternates
abbrev pub walk_over : List ℕ → List (List ℕ) → Answers → Option Walk
walk_over objects given at = result_ok (real_directory objects at) >>= λ real. walk_from real given (record { paths = []; numbers = []; skipped = 0; looked = [] }) at

-- the paths of an object directory, as it was given, and of its alternates, and how many are skipped
abbrev pub with_alternates : List ℕ → List (List ℕ) → Answers → Option (List (List ℕ) × ℕ)
with_alternates objects given at = walk_over objects given at >>= λ walk. Some (with_first objects walk.paths, walk.skipped)

-- the paths that the walk looks at, in order: those of alternates, and those of lists of alternates
abbrev pub looked_at : List ℕ → List (List ℕ) → Answers → Option (List (List ℕ))
looked_at objects given at = walk_over objects given at >>= λ walk. Some walk.looked

-- a walk of the code
abbrev pub walk_of : AWalk → Walk
walk_of walk = record { paths = map string_bytes walk.found.paths.items; numbers = walk.numbers.items; skipped = length walk.found.skipped.items; looked = map (λ look. string_bytes look.path) walk.found.looks.items }

-- what was seen, each with its path
abbrev pub seen_at : List Look → List (List ℕ × Seen)
seen_at looks = map (λ look. (string_bytes look.path, look.seen)) looks

-- what a walk of the code has noted
abbrev pub noted : AWalk → List (List ℕ × Seen)
noted walk = seen_at walk.found.looks.items

-- the paths that a walk found, and how many were skipped
abbrev pub directories_of : ObjectDirectories → List (List ℕ) × ℕ
directories_of directories = (map string_bytes directories.paths.items, length directories.skipped.items)
