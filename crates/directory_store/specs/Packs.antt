-- Which packs there are: by what directories and files answer.
use Rattle.std.specs.Prelude.{ℕ, ◌≡◌, ◌⊎◌, ◌==◌, ◌∷◌, All, Bool, Err, List, [], None, Ok, Option, Result, Some, String, codes, false, flat_map, if◌then◌else◌, map, nat_eq, not, option_map, string_bytes, unwrap_or}
use Rattle.std.specs.Cmp.Lexicographic.{slice_cmp}
use Rattle.std.specs.Global.{Global}
use Rattle.std.specs.List.{AllZip, Contains, count_by, ends_with, filter, slice_split}
use Rattle.std.specs.List.Sorted.{IsPermutation, IsSorted}
use Rattle.std.specs.Ordering.{nat_cmp}
use Rattle.std.specs.Path.{path_join}
use Rattle.std.specs.Result.{result_ok}
use Rattle.std.specs.Str.{is_utf8}
use Rattle.std.specs.declared.io.ErrorKind.{ErrorKind}
use Rattle.std.specs.declared.io.ErrorKind.TheVariants.{NotFound}
use Rattle.gix_hash.specs.declared.Kind.{Kind}
use Rattle.object_store.specs.declared.error.Error.TheVariants as look_up_errors
use Rattle.pack_index.specs.Lazy.{IsOpenFault, LazyIndex, Tables, seen, tables_of}
use Rattle.pack_index.specs.declared.layout.Layout.TheVariants as layouts
use Rattle.pack_index.specs.declared.lazy_error.LazyError.{LazyError}
use Rattle.repositories.specs.Answers.{Answers}
use Rattle.repositories.specs.declared.directories.Found.{Found}
use Rattle.directory_store.specs.Stores.{index_path, pack_path_of}
use Rattle.directory_store.specs.declared.error.Error.{Error}
use Rattle.directory_store.specs.declared.error.Error.TheVariants.{Index}
use Rattle.directory_store.specs.declared.pack_paths.PackPaths.{PackPaths}

-- the directory of packs of an object directory
abbrev pub packs_of : List ℕ → List ℕ
packs_of directory = path_join directory (codes "pack")

-- the names in a directory, as they were answered: none if it is missing
abbrev pub if_listed : Result (List ℕ) ErrorKind → Option (List ℕ)
if_listed (Ok names) = Some names
if_listed (Err NotFound) = Some []
if_listed (Err _) = None

-- the names in a directory, each ended by a NUL
abbrev pub names_in : List ℕ → Answers → Option (List ℕ)
names_in directory at = if_listed (at.names directory)

-- names, of which each is ended by a NUL, one by one
abbrev pub split_names : List ℕ → List (List ℕ)
split_names names = slice_split (λ byte. byte == 0) names

-- whether a name is that of a pack index
abbrev pub is_index_name : List ℕ → Bool
is_index_name name = ends_with nat_eq name (codes ".idx")

-- these are the names of pack indexes among some names, in the order of their bytes
pub record AreIndexNames (names sorted : List (List ℕ)) : Type 0 where
  pub same : IsPermutation (filter is_index_name names) sorted
  pub ordered : IsSorted (slice_cmp nat_cmp) sorted

-- how many pack indexes in a directory have names that are not UTF-8, as paths are
abbrev pub unnamed_in : Answers → List ℕ → ℕ
unnamed_in at directory = count_by (λ name. not (is_utf8 name)) (filter is_index_name (split_names (unwrap_or (names_in directory at) [])))

-- the path of the pack index of a name in a directory: none if it is not UTF-8, as paths are
abbrev pub index_in : List ℕ → List ℕ → List (List ℕ)
index_in directory name = if is_utf8 name then path_join directory name ∷ [] else []

-- these are the paths of the pack indexes in a directory of packs
pub record AreIndexesIn (at : Answers) (directory : List ℕ) (paths : List (List ℕ)) : Type 0 where
  pub names : List ℕ
  pub listed : names_in directory at ≡ Some names
  pub sorted : List (List ℕ)
  pub chosen : AreIndexNames (split_names names) sorted
  pub all : paths ≡ flat_map (index_in directory) sorted

-- these are the paths of the pack indexes in some directories, one after the other
pub record AreIndexes (at : Answers) (directories paths : List (List ℕ)) : Type 0 where
  pub found : List (List (List ℕ))
  pub each : AllZip (AreIndexesIn at) directories found
  pub all : paths ≡ flat_map (λ paths. paths) found

-- whether a path leads to a file, as a look at it answered
abbrev pub is_found_file : Result Found ErrorKind → Bool
is_found_file (Ok found) = found.is_file
is_found_file (Err _) = false

-- whether the pack of a pack index is there
abbrev pub has_pack : Answers → PackPaths → Bool
has_pack at paths = is_found_file (at.look (pack_path_of paths))

-- these are the packs in some directories: of their pack indexes those whose packs are there
pub record ArePacks (at : Answers) (directories : List (List ℕ)) (packs : List PackPaths) : Type 0 where
  pub indexes : List PackPaths
  pub listed : AreIndexes at directories (map index_path indexes)
  pub all : packs ≡ filter (has_pack at) indexes

-- the bytes of a file, as a read of it answered; or none, if it failed
abbrev pub bytes_at : Answers → List ℕ → Option (List ℕ)
bytes_at at path = result_ok (at.bytes path)

-- the tables of the pack index in a file, as a read of it answered; or none, if it failed
abbrev pub tables_at : Answers → Kind → List ℕ → Option Tables
tables_at at kind path = option_map (tables_of kind layouts.Index) (bytes_at at path)

-- the tables of pack indexes that are open, as a look-up sees them
abbrev pub tables_seen : List LazyIndex → List (Option Tables)
tables_seen indexes = map (λ (index : LazyIndex). (seen index).tables) indexes

-- the error of a pack index at this path that is damaged: by the bytes there, as a read of them answered
pub record IsDamagedAt (at : Answers) (kind : Kind) (path : List ℕ) (error : Error) : Type 0 where
  pub text : String Global
  pub fault : LazyError
  pub bytes : List ℕ
  pub is_error : error ≡ Index (look_up_errors.Index text fault)
  pub is_path : string_bytes text ≡ path
  pub is_read : at.bytes path ≡ Ok bytes
  pub is_fault : IsOpenFault false kind bytes fault

-- the error of a pack index that is damaged, at one of these paths
abbrev pub IsDamaged : Answers → Kind → List (List ℕ) → Error → Type 0
IsDamaged at kind paths error = (path : List ℕ) × Contains paths path × IsDamagedAt at kind path error

-- the pack index at this path is open, or it is damaged and has one of these errors
abbrev pub IsOpenOrDamaged : Answers → Kind → List (List ℕ) → List Error → List ℕ → Type 0
IsOpenOrDamaged at kind opened skipped path = Contains opened path ⊎ ((error : Error) × Contains skipped error × IsDamagedAt at kind path error)

-- of the pack indexes at some paths these are open, and the others are damaged and have these errors
pub record AreOpenOrDamaged (at : Answers) (kind : Kind) (paths opened : List (List ℕ)) (skipped : List Error) : Type 0 where
  pub each : All (IsOpenOrDamaged at kind opened skipped) paths
  pub are_damaged : All (IsDamaged at kind paths) skipped
