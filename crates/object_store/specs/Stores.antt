-- What an object store holds, where it has an object, and what is found in it. Ids and abbreviations are given by their digits.
use Rattle.std.specs.Prelude.{[], ℕ, ◌++◌, ◌<◌, ◌∷◌, ◌≡◌, ◌≢◌, ◌≤◌, ◌⊎◌, All, Bool, Contains, IsTrue, List, MatchOption, None, Option, Some, String, Vec, flat_map, if◌then◌else◌, length, map, nat_eq, option_map, slice_get, slice_index_or, string_bytes, suc, take, bytes_eq}
use Rattle.std.specs.List.{AllZip, list_any, position, range_with_len, starts_with, sum_by}
use Rattle.std.specs.List.Sorted.{IsPermutation}
use Rattle.std.specs.Option.{ForSome, option_and_then}
use Rattle.std.specs.IoError.{error_kind}
use Rattle.std.specs.Global.{Global}
use Rattle.std.specs.declared.io.Error.{Error as IoError}
use Rattle.std.specs.declared.io.ErrorKind.{ErrorKind}
use Rattle.std.specs.declared.io.ErrorKind.TheVariants.{NotFound}
use Rattle.id_lookup.specs.Words.{IsIndexOf, Kind, KindDigits, ObjectId, first_byte_of, id_digits, id_kind, matches}
use Rattle.pack_index.specs.Format.{IsPackIndex}
use Rattle.pack_index.specs.Lazy.{BucketIds, HasBucket, HaveRightCounts, IsBucketFault, IsPartOf, IndexView, Tables, counted_with, position_of, tables_of}
use Rattle.pack_index.specs.declared.layout.Layout.TheVariants as layouts
use Rattle.pack_index.specs.Lazy as lazy
use Rattle.pack_index.specs.declared.lazy_error.LazyError.{LazyError}
use Rattle.pack_index.specs.declared.lazy_error.LazyError.TheVariants as faults
use Rattle.object_store.specs.declared.error.Error.{Error}
use Rattle.object_store.specs.declared.error.Error.TheVariants.{Gone, Index, Memory}
use Rattle.object_store.specs.declared.locations.Location.{Location}
use Rattle.object_store.specs.declared.locations.Location.TheVariants.{Loose, Packed}
use Rattle.object_store.specs.declared.abbreviations.AbbreviatedId.{AbbreviatedId}

-- what contracts see of a store: the kind of all ids, the pack indexes, their paths, the ids of the loose objects that were listed, each by its digits, and the
-- only first byte for which they were listed, if they were not listed for all
pub record StoreView : Type 0 where
  pub kind : Kind
  pub packs : List IndexView
  pub paths : List (List ℕ)
  pub loose : List (List ℕ)
  pub listed : Option ℕ

-- the loose objects whose ids have the first byte were listed
abbrev pub IsListed : StoreView → ℕ → Type 0
IsListed view byte = (only : ℕ) → view.listed ≡ Some only → byte ≡ only

-- a store was opened again, or not: its kind stays the same, and so does the first byte for which loose objects are listed. What it had since it was `first`, it
-- still had, and what it has, it had
pub record IsReopened {S : Type 0} (had : S → S → StoreView → Type 0) (view : S → StoreView) (old new : S) : Type 0 where
  pub kind : (view new).kind ≡ (view old).kind
  pub listed : (view new).listed ≡ (view old).listed
  pub before : (first : S) (seen : StoreView) → had first old seen → had first new seen
  pub has : (first : S) → had first old (view old) → had first new (view new)

-- What an object store holds. Each id is given by its digits.

-- the tables of all pack indexes are known, and their fan-out tables are right
pub record AreKnown (view : StoreView) : Type 0 where
  pub tables : List Tables
  pub known : map (λ (pack : IndexView). pack.tables) view.packs ≡ map Some tables
  pub are_counted : All HaveRightCounts tables

-- all their ids, and the loose ones
abbrev pub ids_held : (view : StoreView) → AreKnown view → List (List ℕ)
ids_held view are_known = flat_map (λ (one : Tables). one.ids) are_known.tables ++ view.loose

-- they are so, and `whole` is the index of all their ids and the loose ones
pub record Holds (view : StoreView) (whole : List (List ℕ)) : Type 0 where
  pub are_known : AreKnown view
  pub all : IsIndexOf view.kind (ids_held view are_known) whole

-- the tables are those of a sound pack index
abbrev pub AreOfIndex : Kind → Tables → Type 0
AreOfIndex kind tables = (bytes : List ℕ) × (tables ≡ tables_of kind layouts.Index bytes) × IsPackIndex kind bytes

-- the id is one of the ids, and the abbreviation is its shortest prefix of at least `fewest` digits with which no other one begins
pub record IsAbbreviationIn (fewest : ℕ) (ids : List (List ℕ)) (id short : List ℕ) : Type 0 where
  pub has : Contains ids id
  pub first : short ≡ take (length short) id
  pub long : fewest ≤ length short
  pub alone : (other : List ℕ) → Contains ids other → IsTrue (starts_with nat_eq other short) → other ≡ id
  pub least : (n : ℕ) → fewest ≤ n → n < length short → (other : List ℕ) × Contains ids other × (other ≢ id) × IsTrue (starts_with nat_eq other (take n short))

-- the id and its abbreviation are of the kind
abbrev pub IsOfKind : Kind → AbbreviatedId → Type 0
IsOfKind kind abbreviated = (id_kind abbreviated.id ≡ kind) × (abbreviated.abbreviation.kind ≡ kind)

-- the error of a look-up if a read of the pack index at this path fails with an error of this kind
abbrev pub of_read : String Global → IoError → ErrorKind → Error
of_read path error NotFound = Gone path
of_read path error _ = Index path (faults.Read error)

-- the error of a look-up if the pack index at this path has this fault
abbrev pub of_index : String Global → LazyError → Error
of_index path (faults.Memory error) = Memory error
of_index path (faults.Read error) = of_read path error (error_kind error)
of_index path fault = Index path fault

-- the error is that of this fault of a pack index whose path has these bytes
abbrev pub IsOfIndex : List ℕ → LazyError → Error → Type 0
IsOfIndex path fault error = (text : String Global) × (string_bytes text ≡ path) × (error ≡ of_index text fault)

-- why a look-up that asks the pack indexes in order fails: one of them has a fault, which depends on whether its reads may fail, and those before it have what
-- is asked for; or memory ran out
abbrev pub IsFirstFault : (Tables → Type 0) → (Bool → Tables → LazyError → Type 0) → StoreView → Error → Type 0
IsFirstFault Has HasFault view (Memory error) = Unit {0}
IsFirstFault Has HasFault view error =
    (at : ℕ) × (pack : IndexView) × (slice_get view.packs at ≡ Some pack) × All (λ (other : IndexView). ForSome other.tables Has) (take at view.packs)
    × (fault : LazyError) × IsOfIndex (slice_index_or view.paths at []) fault error × ForSome pack.tables (λ tables. HasFault pack.can_fail tables fault)

-- the pack indexes have the ids that are counted with a first byte
abbrev pub HaveBuckets : StoreView → ℕ → Type 0
HaveBuckets view byte = All (λ (pack : IndexView). ForSome pack.tables (λ tables. HasBucket tables byte)) view.packs

-- why the ids with a first byte are not read
abbrev pub IsStoreFault : StoreView → ℕ → Error → Type 0
IsStoreFault view byte error = IsFirstFault (λ tables. HasBucket tables byte) (λ can_fail tables why. IsBucketFault can_fail tables byte why) view error

-- a pack index has the ids that are counted with the first byte of this one, and this offset for it, or none, as it is none of them
abbrev pub HasOffsetOf : List ℕ → Option ℕ → Tables → Type 0
HasOffsetOf digits offset tables = HasBucket tables (first_byte_of digits) × (option_map tables.offset (position_of digits tables) ≡ option_map Some offset)

-- why the offset of an id is not read
abbrev pub IsLocationFault : Bool → Tables → List ℕ → LazyError → Type 0
IsLocationFault can_fail tables digits (faults.NoOffset at) =
    HasBucket tables (first_byte_of digits) × (position_of digits tables ≡ Some at) × (tables.offset at ≡ None)
IsLocationFault can_fail tables digits error = IsBucketFault can_fail tables (first_byte_of digits) error

-- why the locations of an id are not read: the first pack index with a fault has this one, or memory ran out
abbrev pub IsLocateFault : StoreView → List ℕ → Error → Type 0
IsLocateFault view digits error =
    IsFirstFault (λ tables. (offset : Option ℕ) × HasOffsetOf digits offset tables) (λ can_fail tables why. IsLocationFault can_fail tables digits why) view error

-- the read of a pack index whose reads may fail has failed, or memory ran out
abbrev pub IsIndexReadOrMemory : StoreView → Error → Type 0
IsIndexReadOrMemory view (Memory error) = Unit {0}
IsIndexReadOrMemory view error =
    (at : ℕ) × (pack : IndexView) × (slice_get view.packs at ≡ Some pack)
    × (fault : LazyError) × IsOfIndex (slice_index_or view.paths at []) fault error × lazy.IsReadOrMemory pack.can_fail fault

-- Where an object store has an object. Ids and abbreviations are given by their digits.

-- the offset of the object of an id in a pack, by the first position of the id in the pack index, or none if the pack index does not have the id
abbrev pub offset_of : List ℕ → Tables → Option ℕ
offset_of digits tables = option_and_then tables.offset (position (λ id. bytes_eq id digits) tables.ids)

-- the locations of an object in packs that follow each other, each of which has one offset or none; the first of the packs has this number
abbrev pub in_packs : ℕ → List (Option ℕ) → List Location
in_packs pack [] = []
in_packs pack (None ∷ offsets) = in_packs (suc pack) offsets
in_packs pack (Some offset ∷ offsets) = Packed pack offset ∷ in_packs (suc pack) offsets

-- the location of the object of an id among the loose objects, if it is one of them
abbrev pub loose_at : List ℕ → List (List ℕ) → List Location
loose_at id loose_ids = if list_any (λ loose. bytes_eq loose id) loose_ids then Loose ∷ [] else []

-- all locations of the object of an id: those in the packs, and last `Loose` if it is a loose object
abbrev pub locations_of : List ℕ → List Tables → List (List ℕ) → List Location
locations_of id tables loose_ids = in_packs 0 (map (offset_of id) tables) ++ loose_at id loose_ids

-- The ids of a store with one first byte, and what is found among them.

-- a store looks up what has the first byte among these ids: those that each pack index, if its tables are known, counts with the byte, all of which have it,
-- and the loose ids
pub record AreIdsRead (view : StoreView) (byte : ℕ) (ids : List (List ℕ)) : Type 0 where
  pub small : byte < 256
  pub each : List (List (List ℕ))
  pub counted : AllZip (λ (pack : IndexView) (some : List (List ℕ)).
      ForSome pack.tables (λ tables. HasBucket tables byte × (some ≡ counted_with tables byte))) view.packs each
  pub all : ids ≡ flat_map (λ (some : List (List ℕ)). some) each ++ view.loose

-- each part is one of the pack index at its position, and the parts and the loose ids have all ids that begin with the digits of those that were read
pub record AreParts (view : StoreView) (digits : List ℕ) (parts : List BucketIds) : Type 0 where
  pub enough : 2 ≤ length digits
  pub each : AllZip (λ (pack : IndexView) (part : BucketIds). IsPartOf pack digits part) view.packs parts
  pub read : List (List ℕ)
  pub ids_read : AreIdsRead view (first_byte_of digits) read
  pub matched : flat_map (λ (part : BucketIds). matches digits part.ids) parts ++ matches digits view.loose ≡ matches digits read

-- these are the ids that begin with the digits, of those that were read, each once, in order
pub record AreMatches (view : StoreView) (digits : List ℕ) (ids : List ObjectId) : Type 0 where
  pub read : List (List ℕ)
  pub ids_read : AreIdsRead view (first_byte_of digits) read
  pub index : IsIndexOf view.kind (matches digits read) (map id_digits ids)
  pub kinds : All (λ id. id_kind id ≡ view.kind) ids

-- this is the abbreviation of an id among those that were read, or there is none, as the id is not one of them
pub record IsAbbreviationOf (fewest : ℕ) (view : StoreView) (id : List ℕ) (short : Option KindDigits) : Type 0 where
  pub read : List (List ℕ)
  pub ids_read : AreIdsRead view (first_byte_of id) read
  pub is : MatchOption short (¬ Contains read id) (λ short. IsAbbreviationIn fewest read id short.digits × (short.kind ≡ view.kind))

-- a prefix that is looked up in the part of its first byte: it has 2 digits or more, and the store's kind, and the loose objects with this byte were listed
pub record CanLookUp (view : StoreView) (prefix : KindDigits) : Type 0 where
  pub enough : 2 ≤ length prefix.digits
  pub kind : prefix.kind ≡ view.kind
  pub listed : IsListed view (first_byte_of prefix.digits)

-- there is a list for each prefix: the ids that begin with it
abbrev pub AreMatchesOfEach : {A : Type 0} → StoreView → List KindDigits → List (Vec ObjectId A) → Type 0
AreMatchesOfEach {A} view prefixes found = AllZip (λ (prefix : KindDigits) (ids : Vec ObjectId A). AreMatches view prefix.digits ids.items) prefixes found

-- what is found for some of the prefixes counts more than `most`; the others count as 0
pub record HaveMore {Found : Type 0} (Finds : List ℕ → Found → Type 0) (size : Found → ℕ) (most : ℕ) (prefixes : List KindDigits) : Type 0 where
  pub some : List Found
  pub each : AllZip (λ (prefix : KindDigits) (one : Found). Finds prefix.digits one ⊎ (size one ≡ 0)) prefixes some
  pub more : most < sum_by size some

-- more than `most` ids begin with some of the prefixes
abbrev pub HaveMoreMatches : Type 0 → StoreView → ℕ → List KindDigits → Type 0
HaveMoreMatches A view most prefixes = HaveMore {Found = Vec ObjectId A} (λ digits ids. AreMatches view digits ids.items) (λ ids. length ids.items) most prefixes

-- why several prefixes are not looked up: the look-up of one of them fails, or memory ran out
abbrev pub IsOfOne : (List ℕ → Error → Type 0) → List KindDigits → Error → Type 0
IsOfOne Fails prefixes (Memory error) = Unit {0}
IsOfOne Fails prefixes error = (prefix : KindDigits) × Contains prefixes prefix × Fails prefix.digits error

-- the ids with the first byte of one of the prefixes are not read, or memory ran out
abbrev pub IsFaultOfOne : StoreView → List KindDigits → Error → Type 0
IsFaultOfOne view prefixes error = IsOfOne (λ digits. IsStoreFault view (first_byte_of digits)) prefixes error

-- these are all locations of the object whose id has these digits: one at the offset that each pack index has, if its tables are known, and last `Loose` if it
-- is a loose object
pub record AreLocations (view : StoreView) (digits : List ℕ) (locations : List Location) : Type 0 where
  pub small : first_byte_of digits < 256
  pub offsets : List (Option ℕ)
  pub read : AllZip (λ (pack : IndexView) (offset : Option ℕ). ForSome pack.tables (HasOffsetOf digits offset)) view.packs offsets
  pub all : locations ≡ in_packs 0 offsets ++ loose_at digits view.loose

-- these are the places of n positions: the numbers below n in some order, each after a key
pub record ArePlaces (n : ℕ) (places : List (ℕ × ℕ)) : Type 0 where
  pub in_range : All (λ (place : ℕ × ℕ). place.1 < n) places
  pub order : IsPermutation (range_with_len 0 n) (map (λ (place : ℕ × ℕ). place.1) places)
