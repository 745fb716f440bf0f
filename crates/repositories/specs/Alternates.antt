-- The paths that a list of alternates names.
use Rattle.std.specs.Prelude.{ℕ, suc, zero, Some, None, List, [], ◌∷◌, ◌++◌, ◌==◌, codes, drop, length, if◌then◌else◌, nat_eq, option_and_then}
use Rattle.std.specs.List.{after_first, before_first, starts_with}
use Rattle.git_config.specs.Grammar.{before_nul}
use Rattle.repositories.specs.Quoting.{after_mark, unquoted}

-- the path of the first entry of a list, and the rest. After a quoted path one byte is skipped, mostly the separator. What is not quoted right is a line, and a comment, which begins with #, has the empty path
abbrev pub first_path : ℕ → List ℕ → List ℕ × List ℕ
first_path separator list = elim (option_and_then unquoted (after_mark list)) [
  | Some found ↦ (found.0, drop 1 found.1)
  | None ↦ let line = before_first (λ byte. byte == separator) list in ((if starts_with nat_eq line (codes "#") then [] else line), after_first (λ byte. byte == separator) list)
]

-- the paths of an entry: none if its path is empty, or else the path up to its first NUL
abbrev pub paths_of_entry : List ℕ → List (List ℕ)
paths_of_entry path = if length path == 0 then [] else before_nul path ∷ []

-- the paths of this many entries, at most
abbrev pub first_paths : ℕ → ℕ → List ℕ → List (List ℕ)
first_paths separator zero list = []
first_paths separator (suc n) list = let first = first_path separator list in paths_of_entry first.0 ++ first_paths separator n first.1

-- the paths that a list names, up to its first NUL. An entry has a byte or more, so there are no more entries than bytes
abbrev pub paths_named : ℕ → List ℕ → List (List ℕ)
paths_named separator list = first_paths separator (length list) (before_nul list)
