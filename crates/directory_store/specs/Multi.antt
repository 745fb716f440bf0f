-- Which multi-pack-indexes are read in place of the pack indexes that they name: by what directories and files answer.
use Rattle.std.specs.Prelude.{ℕ, ◌≡◌, ◌⊎◌, ◌↔◌, ◌++◌, ◌==◌, All, List, [], Ok, Option, Some, codes, length, map, not}
use Rattle.std.specs.List.{Contains, filter}
use Rattle.std.specs.Path.{path_join}
use Rattle.gix_hash.specs.declared.Kind.{Kind}
use Rattle.pack_index.specs.Lazy.{HasRightCounts, Tables, ids_at, tables_of}
use Rattle.pack_index.specs.Multi.{IsReadAsMulti}
use Rattle.pack_index.specs.declared.layout.Layout.{Layout}
use Rattle.pack_index.specs.declared.layout.Layout.TheVariants as layouts
use Rattle.repositories.specs.Answers.{Answers}
use Rattle.directory_store.specs.Packs.{AreOpenOrDamaged, split_names, tables_at}
use Rattle.directory_store.specs.declared.error.Error.{Error}
use Rattle.directory_store.specs.declared.multi.Purpose.{Purpose}
use Rattle.directory_store.specs.declared.multi.Purpose.TheVariants.{Ids, Locations}

-- a multi-pack-index: the directory of packs that it is in, its bytes, where its tables are, and the names of its packs, each of which ends in a NUL
pub record Multi : Type 0 where
  pub packs : List ℕ
  pub bytes : List ℕ
  pub layout : Layout
  pub names : List ℕ

-- its path
abbrev pub multi_path : Multi → List ℕ
multi_path multi = path_join multi.packs (codes "multi-pack-index")

-- what its tables say
abbrev pub multi_tables : Kind → Multi → Tables
multi_tables kind multi = tables_of kind multi.layout multi.bytes

-- the names of packs among names that each end in a NUL, which more may follow
abbrev pub pack_names : List ℕ → List (List ℕ)
pack_names names = filter (λ name. not (length name == 0)) (split_names names)

-- the paths of the pack indexes that these names name in a directory of packs
abbrev pub named_in : List ℕ → List ℕ → List (List ℕ)
named_in packs names = map (path_join packs) (pack_names names)

-- a multi-pack-index names the pack index at this path
abbrev pub IsNamed : Multi → List ℕ → Type 0
IsNamed multi path = Contains (named_in multi.packs multi.names) path

-- one of these directories of packs has this multi-pack-index, and all pack indexes that it names are listed at these paths
pub record IsMultiOf (at : Answers) (kind : Kind) (directories listed : List (List ℕ)) (multi : Multi) : Type 0 where
  pub place : Contains directories multi.packs
  pub is_there : at.bytes (multi_path multi) ≡ Ok multi.bytes
  pub is_read : IsReadAsMulti kind multi.bytes multi.layout multi.names
  pub are_listed : (path : List ℕ) → IsNamed multi path → Contains listed path

-- the ids of a multi-pack-index are those of the pack indexes that it names, and its fan-out table is right
pub record HasIdsOf (at : Answers) (kind : Kind) (multi : Multi) : Type 0 where
  pub same : (digits : List ℕ) → Contains (ids_at kind multi.layout multi.bytes) digits
      ↔ ((path : List ℕ) × (bytes : List ℕ) × IsNamed multi path × (at.bytes path ≡ Ok bytes) × Contains (ids_at kind layouts.Index bytes) digits)
  pub counted : HasRightCounts kind multi.layout multi.bytes

-- of the pack indexes that are listed at some paths, those that these multi-pack-indexes name are covered, and those at these other paths are left
pub record AreCovered (at : Answers) (kind : Kind) (directories listed : List (List ℕ)) (multis : List Multi) (left : List (List ℕ)) : Type 0 where
  pub each : All (IsMultiOf at kind directories listed) multis
  pub from : (path : List ℕ) → Contains left path → Contains listed path
  pub all : (path : List ℕ) → Contains listed path → Contains left path ⊎ ((multi : Multi) × Contains multis multi × IsNamed multi path)

-- where objects are is read from pack indexes alone
abbrev pub AreFor : Purpose → List Multi → Type 0
AreFor Ids multis = Unit {0}
AreFor Locations multis = multis ≡ []

-- what is read for a purpose of the pack indexes that are listed at some paths: the files at these paths, which have these tables
pub record AreRead (at : Answers) (purpose : Purpose) (kind : Kind) (directories listed paths : List (List ℕ)) (tables : List (Option Tables)) : Type 0 where
  pub multis : List Multi
  pub left : List (List ℕ)
  pub chosen : AreFor purpose multis
  pub covered : AreCovered at kind directories listed multis left
  pub all : paths ≡ map multi_path multis ++ left
  pub are_tables : tables ≡ map (λ (multi : Multi). Some (multi_tables kind multi)) multis ++ map (tables_at at kind) left

-- of the pack indexes that are listed at some paths each is covered, or open, or damaged, and these are the errors of those that are damaged
pub record AreCoveredOrDamaged (at : Answers) (purpose : Purpose) (kind : Kind) (directories listed opened : List (List ℕ)) (skipped : List Error) : Type 0 where
  pub multis : List Multi
  pub left : List (List ℕ)
  pub chosen : AreFor purpose multis
  pub covered : AreCovered at kind directories listed multis left
  pub others : AreOpenOrDamaged at kind left opened skipped

-- How they are covered.

-- of what is listed at some paths, all of what is named is there, and this is left
pub record AreSplit (listed named left : List (List ℕ)) : Type 0 where
  pub are_listed : (path : List ℕ) → Contains named path → Contains listed path
  pub from : (path : List ℕ) → Contains left path → Contains listed path
  pub all : (path : List ℕ) → Contains listed path → Contains left path ⊎ Contains named path

-- these multi-pack-indexes have these paths and tables, and cover pack indexes, but for those that are left
pub record AreInstead (at : Answers) (kind : Kind) (directories listed paths left : List (List ℕ)) (tables : List (Option Tables)) : Type 0 where
  pub multis : List Multi
  pub covered : AreCovered at kind directories listed multis left
  pub all : paths ≡ map multi_path multis
  pub are_tables : tables ≡ map (λ (multi : Multi). Some (multi_tables kind multi)) multis
