-- What contracts say of object stores in directories.
use Rattle.std.specs.Prelude.{ℕ, ◌≡◌, ◌≢◌, ◌⊎◌, ◌++◌, All, Bool, IsSomeAnd, List, [], ◌∷◌, MatchOption, Option, None, Some, false, if◌then◌else◌, bytes_eq, flat_map, map, option_to_list, string_bytes, true}
use Rattle.std.specs.List.{AllZip, Contains, list_any}
use Rattle.std.specs.declared.time.SystemTime.{SystemTime}
use Rattle.gix_hash.specs.Words.{AreIdDigits, hex_letter, id_digits, id_kind, spelling}
use Rattle.gix_hash.specs.declared.Kind.{Kind}
use Rattle.gix_hash.specs.declared.ObjectId.{ObjectId}
use Rattle.object_store.specs.Stores as stores
use Rattle.object_store.specs.declared.error.Error as look_ups
use Rattle.object_store.specs.declared.error.Error.TheVariants as look_up_errors
use Rattle.pack_index.specs.declared.lazy_error.LazyError.{LazyError}
use Rattle.pack_index.specs.declared.lazy_error.LazyError.TheVariants.{Read}
use Rattle.repositories.specs.Answers.{Answers}
use Rattle.repositories.specs.States.{IsSettled}
use Rattle.repositories.specs.Stores.{byte_hex}
use Rattle.repositories.specs.Walks.{IsStateOf, or_here}
use Rattle.repositories.specs.declared.error.Error as repositories
use Rattle.repositories.specs.declared.error.Error.TheVariants as repository_errors
use Rattle.repositories.specs.declared.state.FileState.{FileState}
use Rattle.directory_store.specs.Paths.{loose_path}
use Rattle.directory_store.specs.declared.error.Error.{Error}
use Rattle.directory_store.specs.declared.error.Error.TheVariants.{Changed, Index, Memory, Repository}
use Rattle.directory_store.specs.declared.loose.LooseDirectory.{LooseDirectory}
use Rattle.directory_store.specs.declared.loose.LooseIds.{LooseIds}
use Rattle.directory_store.specs.declared.loose.LooseIds.TheVariants as loose_ids
use Rattle.directory_store.specs.declared.pack_paths.PackPaths.{PackPaths}

-- the only first byte that loose objects have, if not all are listed
abbrev pub only_of : LooseIds → Option ℕ
only_of loose_ids.All = None
only_of (loose_ids.WithFirstByte byte) = Some byte

-- loose objects with this first byte are listed
abbrev pub IsListedBy : LooseIds → ℕ → Type 0
IsListedBy which byte = (only : ℕ) → only_of which ≡ Some only → byte ≡ only

-- the id of the kind that the text is, in lowercase hex digits, if it is one
abbrev pub IsIdText : Kind → List ℕ → Option ObjectId → Type 0
IsIdText kind text id =
    MatchOption id ((digits : List ℕ) → AreIdDigits kind digits → text ≢ spelling hex_letter digits)
    (λ id. (id_kind id ≡ kind) × (text ≡ spelling hex_letter (id_digits id)) × AreIdDigits kind (id_digits id))

-- the id of the loose object whose file has this name, in the directory of a first byte, if it is one's: the byte's digits and the name are the id
abbrev pub IsLooseId : Kind → ℕ → List ℕ → Option ObjectId → Type 0
IsLooseId kind byte name id = IsIdText kind (byte_hex byte ++ name) id

-- what a list gets of the files of these names, in the directory of a first byte: the id of each that is a loose object's, in the order of the names
pub record AppendsLooseIds (kind : Kind) (byte : ℕ) (names : List (List ℕ)) (old new : List ObjectId) : Type 0 where
  pub found : List (Option ObjectId)
  pub each : AllZip (IsLooseId kind byte) names found
  pub all : new ≡ old ++ flat_map option_to_list found

-- these are the states of what some paths lead to
abbrev pub AreStatesOf : List (List ℕ) → List FileState → Answers → Type 0
AreStatesOf paths states at = AllZip (λ path state. IsStateOf (or_here path) state at) paths states

-- each later change leaves other states, and the time before is given
abbrev pub AreSettled : Option SystemTime → List FileState → Type 0
AreSettled now states = IsSomeAnd now (λ now. All (IsSettled now) states)

-- the path of the file of a loose object in a directory, by its digits
abbrev pub path_in : List ℕ → List ℕ → List ℕ
path_in directory digits = directory ++ 47 ∷ loose_path digits

-- whether an id is one of these, by its digits
abbrev pub has_id : List ℕ → List (List ℕ) → Bool
has_id digits ids = list_any (λ id. bytes_eq id digits) ids

-- the ids are those of the loose objects in all of these directories
abbrev pub AreAllOf : List LooseDirectory → List (List ℕ) → Type 0
AreAllOf directories ids = (digits : List ℕ) → has_id digits ids ≡ list_any (λ directory. has_id digits directory.table.ids) directories

-- the paths of the files that an object has in a directory where the loose objects `ids` are listed: one, or none
abbrev pub paths_in : List ℕ → List (List ℕ) → List ℕ → List (List ℕ)
paths_in directory ids digits = if has_id digits ids then path_in directory digits ∷ [] else []

-- the paths of the files that an object has in several directories, in their order
abbrev pub paths_in_all : List LooseDirectory → List ℕ → List (List ℕ)
paths_in_all directories digits = flat_map (λ directory. paths_in (string_bytes directory.path) directory.table.ids digits) directories

-- the path of a pack index
abbrev pub index_path : PackPaths → List ℕ
index_path paths = string_bytes paths.index

-- the path of a pack
abbrev pub pack_path_of : PackPaths → List ℕ
pack_path_of paths = string_bytes paths.pack

-- a pack index of this path is among those listed
abbrev pub IsListedPack : List PackPaths → PackPaths → Type 0
IsListedPack listed paths = Contains (map index_path listed) (index_path paths)

-- the error that an error of a repository is
abbrev pub of_repository : repositories.Error → Error
of_repository (repository_errors.Memory error) = Memory error
of_repository (repository_errors.Cause cause) = Repository (repository_errors.Cause cause)

-- that a directory or file is not read
abbrev pub IsUnread : Error → Type 0
IsUnread error = (why : repositories.Error) × (error ≡ of_repository why)

-- the error that an error of a look-up is
abbrev pub of_look_up : look_ups.Error → Error
of_look_up (look_up_errors.Memory error) = Memory error
of_look_up error = Index error

-- that a directory of this path was changed, or memory ran out
abbrev pub IsChanged : List ℕ → Error → Type 0
IsChanged path (Changed text) = string_bytes text ≡ path
IsChanged path (Memory error) = Unit {0}
IsChanged path _ = ⊥

-- that a pack index of this path is gone, or why it is not read; or memory ran out
abbrev pub IsIndexError : List ℕ → LazyError → Error → Type 0
IsIndexError path why error = ((look_up : look_ups.Error) × stores.IsOfIndex path why look_up × (error ≡ of_look_up look_up)) ⊎ ((memory : _) × (error ≡ Memory memory))

-- whether an error of a look-up says that a pack index is gone
abbrev pub is_gone : look_ups.Error → Bool
is_gone (look_up_errors.Gone path) = true
is_gone _ = false

-- whether an error says that the store was changed while it was read
abbrev pub is_change : Error → Bool
is_change (Changed path) = true
is_change (Index error) = is_gone error
is_change _ = false

-- whether a pack index was read, and is damaged
abbrev pub is_read : LazyError → Bool
is_read (Read error) = false
is_read _ = true

-- whether an error of a look-up says that a pack index is damaged
abbrev pub is_damaged : look_ups.Error → Bool
is_damaged (look_up_errors.Index path error) = is_read error
is_damaged _ = false

-- whether an error says so
abbrev pub is_damage : Error → Bool
is_damage (Index error) = is_damaged error
is_damage _ = false
