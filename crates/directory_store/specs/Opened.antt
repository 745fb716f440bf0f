-- Which objects an object directory and its alternates have, and a store that was opened: by what directories and files answer. Ids are given by their digits.
use Rattle.std.specs.Prelude.{ℕ, ◌≡◌, ◌⊎◌, ◌↔◌, ◌++◌, All, IsTrue, List, Ok, Option, Some, codes, length, map, string_bytes}
use Rattle.std.specs.List.{Contains, sum_by}
use Rattle.std.specs.Path.{path_join}
use Rattle.std.specs.Str.{is_utf8}
use Rattle.gix_hash.specs.Words.{first_byte_of}
use Rattle.gix_hash.specs.declared.Kind.{Kind}
use Rattle.id_lookup.specs.Words.{IsIndex}
use Rattle.object_store.specs.Stores.{AreKnown, StoreView, ids_held}
use Rattle.pack_index.specs.Lazy.{HasRightCounts, LazyIndex, ids_at}
use Rattle.pack_index.specs.Multi.{IsReadAsMulti}
use Rattle.pack_index.specs.declared.layout.Layout.TheVariants.{Index}
use Rattle.repositories.specs.Answers.{Answers, IfKnown}
use Rattle.repositories.specs.Walks.{with_alternates}
use Rattle.repositories.specs.declared.finding.ObjectDirectory.{ObjectDirectory}
use Rattle.directory_store.specs.Loose.{AreLoose, HasLoose, bytes_asked, listed_in}
use Rattle.directory_store.specs.Multi.{AreCoveredOrDamaged, AreRead, HasIdsOf, IsNamed, Multi, multi_path}
use Rattle.directory_store.specs.Packs.{ArePacks, is_found_file, packs_of, split_names, tables_seen, unnamed_in}
use Rattle.directory_store.specs.Stores.{IsChanged, IsUnread, index_path}
use Rattle.directory_store.specs.declared.error.Error.{Error}
use Rattle.directory_store.specs.declared.loose.LooseIds.{LooseIds}
use Rattle.directory_store.specs.declared.loose.LooseObjects.{LooseObjects}
use Rattle.directory_store.specs.declared.multi.Purpose.{Purpose}
use Rattle.directory_store.specs.declared.multi.Purpose.TheVariants.{Ids}
use Rattle.directory_store.specs.declared.pack_paths.PackPaths.{PackPaths}

-- an object directory has a pack index at this path, whose pack is there
pub record HasIndex (at : Answers) (directory path : List ℕ) : Type 0 where
  pub stem : List ℕ
  pub is_there : Contains (split_names (listed_in (packs_of directory) at)) (stem ++ codes ".idx")
  pub is_text : IsTrue (is_utf8 (stem ++ codes ".idx"))
  pub is_path : path ≡ path_join (packs_of directory) (stem ++ codes ".idx")
  pub has_pack : IsTrue (is_found_file (at.look (path_join (packs_of directory) (stem ++ codes ".pack"))))

-- the fan-out table of each pack index of these object directories is right
abbrev pub HaveCounts : Answers → Kind → List (List ℕ) → Type 0
HaveCounts at kind directories = (directory path : List ℕ) → Contains directories directory → HasIndex at directory path → (bytes : List ℕ) × (at.bytes path ≡ Ok bytes) × HasRightCounts kind Index bytes

-- the ids of each multi-pack-index of these object directories are those of the packs that it names, if all of these packs are there
abbrev pub HaveIdsOfPacks : Answers → Kind → List (List ℕ) → Type 0
HaveIdsOfPacks at kind directories = (multi : Multi) → Contains (map packs_of directories) multi.packs → at.bytes (multi_path multi) ≡ Ok multi.bytes
    → IsReadAsMulti kind multi.bytes multi.layout multi.names → ((path : List ℕ) → IsNamed multi path → (directory : List ℕ) × Contains directories directory × HasIndex at directory path)
    → HasIdsOf at kind multi

-- what is read of these object directories for a purpose is right: the fan-out tables of pack indexes, and the ids of multi-pack-indexes
pub record AreRight (at : Answers) (purpose : Purpose) (kind : Kind) (directories : List (List ℕ)) : Type 0 where
  pub counts : HaveCounts at kind directories
  pub ids : purpose ≡ Ids → HaveIdsOfPacks at kind directories

-- an object directory has an object: the file of one of its pack indexes has the id, or it is loose, and asked for
abbrev pub HasObject : Answers → Kind → LooseIds → List ℕ → List ℕ → Type 0
HasObject at kind which directory digits =
    ((path : List ℕ) × (bytes : List ℕ) × HasIndex at directory path × (at.bytes path ≡ Ok bytes) × Contains (ids_at kind Index bytes) digits)
    ⊎ (Contains (bytes_asked which) (first_byte_of digits) × HasLoose at kind directory digits)

-- one of the object directories has the object
abbrev pub IsObject : Answers → Kind → LooseIds → List (List ℕ) → List ℕ → Type 0
IsObject at kind which directories digits = (directory : List ℕ) × Contains directories directory × HasObject at kind which directory digits

-- these are the ids, in order, of the objects that some object directories have
pub record AreObjects (at : Answers) (kind : Kind) (which : LooseIds) (directories ids : List (List ℕ)) : Type 0 where
  pub index : IsIndex kind ids
  pub members : (digits : List ℕ) → Contains ids digits ↔ IsObject at kind which directories digits

-- a store that was opened for a purpose has exactly the objects that some object directories have, if what is read of them is right
pub record HasAll (at : Answers) (purpose : Purpose) (which : LooseIds) (directories : List (List ℕ)) (view : StoreView) : Type 0 where
  pub are_known : AreRight at purpose view.kind directories → AreKnown view
  pub members : (right : AreRight at purpose view.kind directories) (digits : List ℕ) → Contains (ids_held view (are_known right)) digits ↔ ∥ IsObject at view.kind which directories digits ∥₁

-- where an object directory is: its path, and those of the alternates that the environment adds
abbrev pub place_of : ObjectDirectory → List ℕ × List (List ℕ)
place_of objects = (string_bytes objects.path, map string_bytes objects.alternates.items)

-- these are the paths of an object directory and of its alternates, with those that the environment adds, of which none is skipped
abbrev pub AreWithAlternates : Answers → ObjectDirectory → List (List ℕ) → Type 0
AreWithAlternates at objects directories = with_alternates (string_bytes objects.path) (map string_bytes objects.alternates.items) at ≡ Some (directories, 0)

-- a store has exactly the objects of an object directory and its alternates
abbrev pub HasAllOf : Answers → Purpose → LooseIds → ObjectDirectory → StoreView → Type 0
HasAllOf at purpose which objects view = (directories : List (List ℕ)) × AreWithAlternates at objects directories × HasAll at purpose which directories view

-- How a store has them.

-- these are the directories of an object directory and its alternates, and of all pack indexes with packs there these are read for a purpose, from these paths
pub record AreOpened (at : Answers) (purpose : Purpose) (objects : ObjectDirectory) (directories paths : List (List ℕ)) (indexes : List LazyIndex) : Type 0 where
  pub alternates : AreWithAlternates at objects directories
  pub packs : List PackPaths
  pub listed : ArePacks at (map packs_of directories) packs
  pub read : AreRead at purpose objects.kind (map packs_of directories) (map index_path packs) paths (tables_seen indexes)

-- these loose objects were listed in object directories
abbrev pub AreLooseOf : Answers → Kind → List (List ℕ) → LooseObjects → Type 0
AreLooseOf at kind directories loose = AreLoose at kind loose.which directories loose.directories.items

-- Why something is skipped.

-- what is skipped of an object directory and its alternates: as many alternates as cannot be used, as many pack indexes as have names that are not UTF-8, and
-- all pack indexes with packs that are neither opened nor covered, which are damaged
pub record AreSkipped (at : Answers) (purpose : Purpose) (objects : ObjectDirectory) (opened : List (List ℕ)) (skipped : List Error) : Type 0 where
  pub directories : List (List ℕ)
  pub alternates : List Error
  pub unnamed : List Error
  pub damaged : List Error
  pub packs : List PackPaths
  pub all : skipped ≡ alternates ++ unnamed ++ damaged
  pub found : with_alternates (place_of objects).0 (place_of objects).1 at ≡ Some (directories, length alternates)
  pub are_unnamed : length unnamed ≡ sum_by (unnamed_in at) (map packs_of directories)
  pub are_unread : All IsUnread (alternates ++ unnamed)
  pub listed : ArePacks at (map packs_of directories) packs
  pub are_damaged : AreCoveredOrDamaged at purpose objects.kind (map packs_of directories) (map index_path packs) opened damaged

-- why something of a store is skipped: it was so as the store was opened, by what directories and files answer, if that is known, or the store has changed since
abbrev pub HaveReasons : Option Answers → Purpose → ObjectDirectory → List (List ℕ) → List Error → Type 0
HaveReasons known purpose objects opened skipped = ∥ All (IsChanged (string_bytes objects.path)) skipped ⊎ IfKnown (λ at. AreSkipped at purpose objects opened skipped) known ∥₁
