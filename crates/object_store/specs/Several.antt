-- The locations and the abbreviations of the ids that begin with each of several prefixes.
use Rattle.std.specs.Prelude.{◌≡◌, ℕ, ◌<◌, ◌/◌, ◌%◌, ◌⊎◌, List, [], ◌∷◌, None, Option, Some, Vec, length, map, string_bytes, take, All, Contains}
use Rattle.std.specs.List.{AllZip, sum_by}
use Rattle.id_lookup.specs.Words.{IsIndexOf, Kind, KindDigits, ObjectId, first_byte_of, id_digits, matches}
use Rattle.object_store.specs.Stores.{AreIdsRead, AreLocations, AreMatches, HaveMore, IsLocateFault, IsAbbreviationIn, IsOfKind, IsOfOne, IsStoreFault, StoreView}
use Rattle.object_store.specs.declared.error.Error.{Error}
use Rattle.object_store.specs.declared.locations.LocatedId.{LocatedId}
use Rattle.object_store.specs.declared.abbreviations.AbbreviatedId.{AbbreviatedId}
use Rattle.object_store.specs.declared.abbreviations.Abbreviation.{Abbreviation}
use Rattle.object_store.specs.declared.abbreviations.Abbreviation.TheVariants.{Missing, Ambiguous, Unique}

-- the id that is located has all locations of its object, and the paths of the files that the object has as a loose object
pub record IsLocated {A : Type 0} (view : StoreView) (loose_paths : List ℕ → List (List ℕ)) (located : LocatedId A) : Type 0 where
  pub locations : AreLocations view (id_digits located.id) located.locations.items
  pub paths : map string_bytes located.loose_paths.items ≡ loose_paths (id_digits located.id)

-- the first items of a list, at most as many as the limit, or all if there is no limit
abbrev pub limited_to : {X : Type 0} → Option ℕ → List X → List X
limited_to None xs = xs
limited_to (Some limit) xs = take limit xs

-- these are the ids of the store that begin with the digits, the first ones up to the limit
pub record AreFirstMatches {A : Type 0} (limit : Option ℕ) (view : StoreView) (digits : List ℕ) (first : Vec ObjectId A) : Type 0 where
  pub ids : Vec ObjectId A
  pub are_matches : AreMatches view digits ids.items
  pub first_are : first.items ≡ limited_to limit ids.items

-- these are the ids of the store that begin with the digits, the first ones up to the limit, each with its locations
pub record AreLocated {A : Type 0} (limit : Option ℕ) (view : StoreView) (loose_paths : List ℕ → List (List ℕ)) (digits : List ℕ) (located : List (LocatedId A)) : Type 0 where
  pub ids : List ObjectId
  pub are_matches : AreMatches view digits ids
  pub first : map (λ (l : LocatedId A). l.id) located ≡ limited_to limit ids
  pub each : All (IsLocated view loose_paths) located

-- why the ids that begin with the digits are not located: the look-up of the ids fails, or that of the locations of one of them up to the limit
abbrev pub IsLocationsFault : Option ℕ → StoreView → List ℕ → Error → Type 0
IsLocationsFault limit view digits error =
    IsStoreFault view (first_byte_of digits) error
    ⊎ ((ids : List ObjectId) × AreMatches view digits ids × (id : ObjectId) × Contains (limited_to limit ids) id × IsLocateFault view (id_digits id) error)

-- there is a list for each prefix: the ids that begin with it, the first ones up to the limit, each with its locations
abbrev pub AreLocatedOfEach : {A : Type 0} → Option ℕ → StoreView → (List ℕ → List (List ℕ)) → List KindDigits → List (Vec (LocatedId A) A) → Type 0
AreLocatedOfEach {A} limit view loose_paths prefixes located =
    AllZip (λ (prefix : KindDigits) (ids : Vec (LocatedId A) A). AreLocated limit view loose_paths prefix.digits ids.items) prefixes located

-- how many locations the ids have together
abbrev pub location_count : {A : Type 0} → Vec (LocatedId A) A → ℕ
location_count ids = sum_by (λ located. length located.locations.items) ids.items

-- the ids that are located for some of the prefixes have more than `most` locations together
abbrev pub HaveMoreLocations : Type 0 → Option ℕ → StoreView → (List ℕ → List (List ℕ)) → ℕ → List KindDigits → Type 0
HaveMoreLocations A limit view loose_paths most prefixes =
    HaveMore {Found = Vec (LocatedId A) A} (λ digits ids. AreLocated limit view loose_paths digits ids.items) location_count most prefixes

-- why the ids of several prefixes are not located: those of one of the prefixes are not, or memory ran out
abbrev pub IsLocationsFaultOfOne : Option ℕ → StoreView → List KindDigits → Error → Type 0
IsLocationsFaultOfOne limit view prefixes error = IsOfOne (IsLocationsFault limit view) prefixes error

-- the abbreviation says whether none was found, or more than one, or has the only one that was found, with its abbreviation among the ids, both of the kind
abbrev pub IsAbbreviatedAs : ℕ → Kind → List (List ℕ) → List (List ℕ) → Abbreviation → Type 0
IsAbbreviatedAs fewest kind ids found Missing = found ≡ []
IsAbbreviatedAs fewest kind ids found Ambiguous = 1 < length found
IsAbbreviatedAs fewest kind ids found (Unique abbreviated) =
    (found ≡ id_digits abbreviated.id ∷ []) × IsAbbreviationIn fewest ids (id_digits abbreviated.id) abbreviated.abbreviation.digits × IsOfKind kind abbreviated

-- the abbreviation says so of the ids that were read, where `found` has those that begin with the digits, each once
pub record IsAbbreviated (fewest : ℕ) (view : StoreView) (digits : List ℕ) (abbreviation : Abbreviation) : Type 0 where
  pub read : List (List ℕ)
  pub ids_read : AreIdsRead view (first_byte_of digits) read
  pub found : List (List ℕ)
  pub index : IsIndexOf view.kind (matches digits read) found
  pub says : IsAbbreviatedAs fewest view.kind read found abbreviation

-- these are the ids with a first byte, which are those that begin with its two digits, each once, in order, with its abbreviation
pub record AreAbbreviated (fewest : ℕ) (view : StoreView) (byte : ℕ) (abbreviated : List AbbreviatedId) : Type 0 where
  pub read : List (List ℕ)
  pub ids_read : AreIdsRead view byte read
  pub index : IsIndexOf view.kind (matches (byte / 16 ∷ byte % 16 ∷ []) read) (map (λ (n : AbbreviatedId). id_digits n.id) abbreviated)
  pub abbreviations : All (λ (n : AbbreviatedId). IsAbbreviationIn fewest read (id_digits n.id) n.abbreviation.digits) abbreviated
  pub kinds : All (IsOfKind view.kind) abbreviated

-- what the look-up of an abbreviation counts as: 1, or 0 if no id begins with the prefix
abbrev pub id_count : Abbreviation → ℕ
id_count Missing = 0
id_count Ambiguous = 1
id_count (Unique abbreviated) = 1

-- there is an abbreviation for each prefix
abbrev pub AreAbbreviatedOfEach : ℕ → StoreView → List KindDigits → List Abbreviation → Type 0
AreAbbreviatedOfEach least view prefixes abbreviations = AllZip (λ (prefix : KindDigits). IsAbbreviated least view prefix.digits) prefixes abbreviations
