-- Which loose objects there are: by what directories answer. Ids are given by their digits.
use Rattle.std.specs.Prelude.{ℕ, ◌≡◌, ◌↔◌, ◌++◌, ◌∷◌, All, List, [], String, Vec, drop, flat_map, map, slice_index_or, string_bytes, take, true, unwrap_or}
use Rattle.std.specs.Global.{Global}
use Rattle.std.specs.List.{Contains, range_with_len}
use Rattle.std.specs.Result.{result_ok}
use Rattle.gix_hash.specs.Words.{AreIdDigits, first_byte_of, hex_letter, spelling}
use Rattle.gix_hash.specs.declared.Kind.{Kind}
use Rattle.repositories.specs.Answers.{Answers}
use Rattle.repositories.specs.Stores.{byte_hex}
use Rattle.directory_store.specs.Packs.{split_names}
use Rattle.directory_store.specs.declared.loose.FanOut.{FanOut}
use Rattle.directory_store.specs.declared.loose.LooseDirectory.{LooseDirectory}
use Rattle.directory_store.specs.declared.loose.LooseIds.{LooseIds}
use Rattle.directory_store.specs.declared.loose.LooseIds.TheVariants as loose_ids
use Rattle.directory_store.specs.declared.loose.FanOutNames.{FanOutNames}

-- what is listed in a directory, each name ended by a NUL: nothing if it is missing, or is none
abbrev pub listed_in : List ℕ → Answers → List ℕ
listed_in directory at = unwrap_or (result_ok (at.names directory)) []

-- an object directory has a loose object of the kind: the fan-out directory of the first two digits of its id has a name of the others
pub record HasLoose (at : Answers) (kind : Kind) (directory digits : List ℕ) : Type 0 where
  pub of_kind : AreIdDigits kind digits
  pub named : Contains (split_names (listed_in (directory ++ 47 ∷ spelling hex_letter (take 2 digits)) at)) (spelling hex_letter (drop 2 digits))

-- the first bytes of the ids of the loose objects that are asked for
unfoldable pub bytes_asked : LooseIds → List ℕ
bytes_asked loose_ids.All = range_with_len 0 256
bytes_asked (loose_ids.WithFirstByte byte) = byte ∷ []

-- these are the ids of the loose objects with some first bytes that an object directory has
abbrev pub AreLooseIn : Answers → Kind → List ℕ → List ℕ → List (List ℕ) → Type 0
AreLooseIn at kind bytes directory ids = (digits : List ℕ) → Contains ids digits ↔ (Contains bytes (first_byte_of digits) × HasLoose at kind directory digits)

-- in an object directory the loose objects that are asked for were listed
abbrev pub HasAllLoose : Answers → Kind → LooseIds → LooseDirectory → Type 0
HasAllLoose at kind which directory = AreLooseIn at kind (bytes_asked which) (string_bytes directory.path) directory.table.ids

-- the same in each of the object directories of these paths, in their order
pub record AreLoose (at : Answers) (kind : Kind) (which : LooseIds) (paths : List (List ℕ)) (directories : List LooseDirectory) : Type 0 where
  pub own : map (λ directory. string_bytes directory.path) directories ≡ paths
  pub each : All (HasAllLoose at kind which) directories

-- How they are listed: by the names in all fan-out directories of a first byte, in parts.

-- the path of the fan-out directory of a first byte
abbrev pub fan_out_in : ℕ → String Global → List ℕ
fan_out_in byte directory = string_bytes directory ++ 47 ∷ byte_hex byte

-- the paths of the fan-out directories that are asked for in some object directories
abbrev pub fan_outs_in : LooseIds → List (String Global) → List (List ℕ)
fan_outs_in which directories = flat_map (λ directory. map (λ byte. fan_out_in byte directory) (bytes_asked which)) directories

-- these are the names for each object directory
abbrev pub AreNamesIn : Answers → ℕ → List (String Global) → List (Vec ℕ Global) → Type 0
AreNamesIn at byte directories names = map (λ names. names.items) names ≡ map (λ directory. listed_in (fan_out_in byte directory) at) directories

-- nothing is listed in a fan-out directory that is known to be missing
abbrev pub ListsIfThere : Answers → FanOut → Type 0
ListsIfThere at fan_out = fan_out.is_missing ≡ true → listed_in (string_bytes fan_out.path) at ≡ []

-- a part has the names for the object directory of this path, at a position
abbrev pub HasNamesAt : Answers → ℕ → List ℕ → FanOutNames → Type 0
HasNamesAt at index directory part = slice_index_or (map (λ names. names.items) part.names.items) index [] ≡ listed_in (directory ++ 47 ∷ byte_hex part.byte) at
