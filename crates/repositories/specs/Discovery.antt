-- Where a repository and its objects are, as Git finds them (setup.c): by what directories and files answer, and by the environment.
use Rattle.std.specs.Prelude.{◌≡◌, ◌⊎◌, ℕ, zero, suc, ◌&&◌, ◌||◌, ◌-◌, ◌==◌, Bool, false, true, if◌then◌else◌, Option, Some, None, Ok, Err, List, [], bytes_eq, codes, drop, length, map, nat_eq, option_and_then, option_map, string_bytes, take, unwrap_or}
use Rattle.std.specs.List.{list_all, starts_with, suffix_len}
use Rattle.std.specs.Path.{path_join, path_parent}
use Rattle.std.specs.Result.{result_ok}
use Rattle.std.specs.Str.{is_utf8}
use Rattle.gix_hash.specs.declared.Kind.{Kind}
use Rattle.gix_hash.specs.declared.Kind.TheVariants.{Sha1}
use Rattle.repositories.specs.Alternates.{paths_named}
use Rattle.repositories.specs.Answers.{◌>>=◌, Answers, front}
use Rattle.repositories.specs.Formats.{Says}
use Rattle.repositories.specs.Heads.{is_head}
use Rattle.repositories.specs.Lookups.{as_text, file_number_at, if_there, is_file, is_directory, is_no_link, real_directory, short_file}
use Rattle.repositories.specs.declared.finding.ObjectDirectory.{ObjectDirectory}
use Rattle.repositories.specs.declared.repository.Environment.{Environment}

-- whether a path leads to a file that is a HEAD, by its first 255 bytes
abbrev pub has_head_file : List ℕ → Answers → Option Bool
has_head_file path at = is_file path at >>= λ is.
    if is then (if_there (front 255 path at) >>= λ front. elim front [ None ↦ Some false | Some front ↦ Some (is_head front) ]) else Some false

-- whether a directory has a HEAD: a link to a reference, which need not be there, or a file that is one
abbrev pub has_head : List ℕ → Answers → Option Bool
has_head directory at = let path = path_join directory (codes "HEAD") in elim (at.link path) [
  | Ok reference ↦ Some (starts_with nat_eq reference (codes "refs/"))
  | Err kind ↦ if is_no_link kind then has_head_file path at else None
]

-- whether a byte is a line feed or a carriage return
abbrev pub is_line_end : ℕ → Bool
is_line_end byte = byte == 10 || byte == 13

-- a text without the line feeds and carriage returns at its end
abbrev pub without_line_ends : List ℕ → List ℕ
without_line_ends text = take (length text - suffix_len is_line_end text) text

-- what a gitfile says after its key
abbrev pub after_gitdir : List ℕ → Option (List ℕ)
after_gitdir text = if bytes_eq (take 8 text) (codes "gitdir: ") then Some (drop 8 text) else None

-- the directory that a gitfile of at most 1 MiB names, relative to its own
abbrev pub named_by : List ℕ → Answers → Option (List ℕ)
named_by path at = short_file 1048576 path at >>= as_text >>= λ text. option_and_then after_gitdir text >>= λ name.
    Some (path_join (unwrap_or (path_parent path) []) (without_line_ends name))

-- the directory that the text of the file commondir of a directory names. An empty text is an error
unfoldable pub common_named : List ℕ → List ℕ → Answers → Option (List ℕ)
common_named directory name at = if length name == 0 then None else option_map (λ real. real.0) (result_ok (real_directory (path_join directory (without_line_ends name)) at))

-- the directory that the file commondir of a directory names, or the directory itself if there is no such file
abbrev pub common_of : List ℕ → Answers → Option (List ℕ)
common_of directory at = if_there (at.bytes (path_join directory (codes "commondir"))) >>= as_text >>= λ text. elim text [
  | None ↦ Some directory
  | Some name ↦ common_named directory name at
]

-- the common directory of a directory, but that of the environment if it names one
abbrev pub common_directory : Environment → List ℕ → Answers → Option (List ℕ)
common_directory given directory at = elim given.common_dir [ Some common ↦ Some (string_bytes common) | None ↦ common_of directory at ]

-- whether the object directory of the environment is there, or else that of a directory
abbrev pub has_objects : Environment → List ℕ → Answers → Option Bool
has_objects given directory at = elim given.object_directory [ Some objects ↦ is_directory (string_bytes objects) at | None ↦ is_directory (path_join directory (codes "objects")) at ]

-- whether an object directory is there, and references in a directory
abbrev pub has_both : Environment → List ℕ → Answers → Option Bool
has_both given directory at = has_objects given directory at >>= λ has. if has then is_directory (path_join directory (codes "refs")) at else Some false

-- the repository that is a directory, by its common directory
abbrev pub repository_at : Environment → List ℕ → Answers → Option (Option (List ℕ))
repository_at given directory at = has_head directory at >>= λ has.
    if has then (common_directory given directory at >>= λ common. has_both given common at >>= λ both. if both then Some (Some common) else Some None) else Some None

-- the directory that is there, or that a gitfile names
abbrev pub directory_at : List ℕ → Answers → Option (List ℕ)
directory_at path at = is_file path at >>= λ is. if is then named_by path at else Some path

-- the repository that has to be there, or that a gitfile has to name
abbrev pub required : Environment → List ℕ → Answers → Option (List ℕ)
required given path at = directory_at path at >>= λ directory. repository_at given directory at >>= λ found. found

-- the repository that a directory has as .git
abbrev pub repository_of_worktree : Environment → List ℕ → Answers → Option (Option (List ℕ))
repository_of_worktree given directory at = let path = path_join directory (codes ".git") in is_file path at >>= λ is.
    if is then (required given path at >>= λ found. Some (Some found)) else repository_at given path at

-- the directory with the objects, references and config of a repository, and the top of its worktree, from which relative paths of the environment lead; it is empty for the current directory
pub record Repository : Type 0 where
  pub directory : List ℕ
  pub top : List ℕ

-- the repository of a directory, as .git, or else as a bare one, whose top is the current directory
unfoldable pub repository_in : Environment → List ℕ → Answers → Option (Option Repository)
repository_in given directory at = repository_of_worktree given directory at >>= λ found. elim found [
  | Some found ↦ Some (Some (record { directory = found; top = directory }))
  | None ↦ repository_at given directory at >>= λ found. Some (option_map (λ found. record { directory = found; top = [] }) found)
]

-- what is found first, or what is found next if that is nothing
abbrev pub or_next : {T : Type 0} → Option (Option T) → Option (Option T) → Option (Option T)
or_next (Some None) next = next
or_next found next = found

-- the repository of the first of so many directories, from this one upwards, that has one
unfoldable pub first_above : Environment → ℕ → List ℕ → Answers → Option (Option Repository)
first_above given zero directory at = Some None
first_above given (suc n) directory at = or_next (repository_in given directory at)
    (elim (path_parent directory) [ None ↦ Some None | Some above ↦ first_above given n above at ])

-- the repository of the current directory, which is then its top, or of the first directory above it that has one. A path has at most 4096 bytes, two for each directory
abbrev pub find_from : Environment → List ℕ → Answers → Option (Option Repository)
find_from given here at = or_next (repository_in given here at >>= λ found. Some (option_map (λ found. record { directory = found.directory; top = [] }) found))
    (elim (path_parent here) [ None ↦ Some None | Some above ↦ first_above given 2048 above at ])

-- whether two paths lead to the same directory, as the root and the one above it do
abbrev pub is_highest : List ℕ → List ℕ → Answers → Option Bool
is_highest directory above at = file_number_at directory at >>= λ number. file_number_at above at >>= λ other. Some (number.dev == other.dev && number.ino == other.ino)

-- the repository of the first of so many directories, from this one upwards, that has one: by relative paths, where the path of the current directory is not UTF-8
unfoldable pub find_above : Environment → ℕ → List ℕ → Answers → Option (Option Repository)
find_above given zero directory at = Some None
find_above given (suc n) directory at = or_next (repository_in given directory at)
    (let above = path_join directory (codes "..") in is_highest directory above at >>= λ is. if is then Some None else find_above given n above at)

-- the repository that the environment names, or that of the current directory or above it. A path has at most 4096 bytes, three for each directory above
unfoldable pub look_for : Environment → Option (List ℕ) → Answers → Option (Option Repository)
look_for given here at = elim given.dir [
  | Some path ↦ required given (string_bytes path) at >>= λ found. Some (Some (record { directory = found; top = [] }))
  | None ↦ elim here [ Some here ↦ find_from given here at | None ↦ find_above given 1365 (codes ".") at ]
]

-- a repository with the common directory of the environment, if it names one: relative to the top
abbrev pub with_common : Environment → Repository → Repository
with_common given found = elim given.common_dir [ Some common ↦ record { directory = path_join found.top (string_bytes common); top = found.top } | None ↦ found ]

-- the repository that Git finds by the environment and from the current directory, if there is one
unfoldable pub find : Environment → Option (List ℕ) → Answers → Option (Option Repository)
find given here at = look_for given here at >>= λ found. Some (option_map (with_common given) found)

-- what the config in a directory says of the kind of ids, or none if there is no config. It has at most 16 MiB
abbrev pub ConfigSays : List ℕ → Option Kind → Answers → Type 0
ConfigSays directory kind at = let file = short_file 16777216 (path_join directory (codes "config")) at in elim kind [
  | None ↦ file ≡ Some None
  | Some kind ↦ (text : List ℕ) × (file ≡ Some (Some text)) × Says text (Ok kind)
]

-- the kind of a repository's ids: SHA-1 if there is no config
abbrev pub HasKind : List ℕ → Kind → Answers → Type 0
HasKind directory kind at = ConfigSays directory (Some kind) at ⊎ (ConfigSays directory None at × (kind ≡ Sha1))

-- the kind of the ids of an object directory, by the config beside it: if it is a link, beside the directory, or else beside the link
abbrev pub HasKindBeside : List ℕ → Kind → Answers → Type 0
HasKindBeside objects kind at =
    let above = path_join objects (codes "..") in
    ConfigSays above (Some kind) at ⊎ (ConfigSays above None at × HasKind (unwrap_or (path_parent objects) objects) kind at)

-- the object directory of a repository: that of the environment, relative to the top, or else its own
abbrev pub objects_of : Environment → Repository → List ℕ
objects_of given found = elim given.object_directory [ Some path ↦ path_join found.top (string_bytes path) | None ↦ path_join found.directory (codes "objects") ]

-- an alternate of the environment: relative to the top of the worktree, or empty if its path began with a NUL
abbrev pub alternate_in : List ℕ → List ℕ → List ℕ
alternate_in top path = if length path == 0 then [] else path_join top path

-- the alternates that the environment adds, which are between colons
abbrev pub alternates_of : Environment → List ℕ → List (List ℕ)
alternates_of given top = elim given.alternate_object_directories [ Some list ↦ map (alternate_in top) (paths_named 58 (string_bytes list)) | None ↦ [] ]

-- whether all alternates of the environment are UTF-8, also those that it quotes
abbrev pub are_text : Environment → Bool
are_text given = elim given.alternate_object_directories [ Some list ↦ list_all is_utf8 (paths_named 58 (string_bytes list)) | None ↦ true ]

-- the path of the object directory, that of the repository or else that of the environment, and the alternates that the environment adds
abbrev pub found_objects : Environment → Option Repository → Option (List ℕ × List (List ℕ))
found_objects given (Some found) = Some (objects_of given found, alternates_of given found.top)
found_objects given None = option_map (λ path. (path, alternates_of given [])) (option_map string_bytes given.object_directory)

-- the same, by what Git finds from the current directory
abbrev pub find_objects : Environment → Option (List ℕ) → Answers → Option (List ℕ × List (List ℕ))
find_objects given here at = find given here at >>= found_objects given

-- the kind of the ids of an object directory is that of the repository, or else the one by the config beside the directory
abbrev pub HasKindFound : Environment → Option (List ℕ) → ObjectDirectory → Answers → Type 0
HasKindFound given here directory at = elim (find given here at) [
  | Some (Some found) ↦ HasKind found.directory directory.kind at
  | Some None ↦ HasKindBeside (string_bytes directory.path) directory.kind at
  | None ↦ ⊥
]

-- no kind is that of the ids of the object directory that is found
abbrev pub HasNoKindFound : Environment → Option (List ℕ) → Answers → Type 0
HasNoKindFound given here at = (directory : ObjectDirectory) → find_objects given here at ≡ Some (string_bytes directory.path, map string_bytes directory.alternates.items) → ¬ HasKindFound given here directory at
