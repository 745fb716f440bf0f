-- What look-ups in a table of digests return.
use Rattle.std.specs.Prelude.{[], ℕ, ◌<◌, ◌≡◌, ◌≤◌, ◌⊎◌, Bool, List, None, Option, Some, false, length, nat_lt, slice_index_or, take, true}
use Rattle.id_lookup.specs.Words.{IsFirstUnsorted, IsRun, IsShortestAbbreviation, IsSortedIds, Kind, Sha1, Sha256, hex_len_of, kind_digits, number_of}
use Rattle.id_lookup.specs.declared.search.Run as found
use Rattle.pack_index.specs.Format.{HasHead, HasOffset, HasTables, IsFault, IsPackIndex, IsRefusal, crc_in, digests_in, ids_in, num_objects, offset_in}
use Rattle.pack_index.specs.declared.error.Error.{Error}
use Rattle.pack_index.specs.declared.error.Error.TheVariants.{BadMagic, BadVersion, LongOutOfOrder, IdsFall, NoOffset, OffsetInHeader, OffsetTooHigh, OtherKind, SpareLong, TooShort, Version1, WrongChecksum, WrongCount, WrongLength}
use Rattle.gix_hash_c.specs.Codes.{BAD_KIND, BAD_LENGTH, NOT_UNIQUE, OK, OUT_OF_RANGE, PREFIX_TOO_LONG, UNSORTED}
use Rattle.gix_hash_c.specs.Face.{HoldsId}
use Rattle.gix_hash_c.specs.declared.ids.Id.{Id}
use Rattle.gix_hash_c.specs.declared.look_up.Run.{Run}
use Rattle.gix_hash_c.specs.declared.packs.Entry.{Entry}

-- a run of C's as one of `id_lookup`
abbrev pub run_in : Run → found.Run
run_in run = record { start = run.start; end = run.end }

-- the run of some digits, if the ids are sorted; else some run of their indexes
pub record IsRunIfSorted (digits : List ℕ) (ids : List (List ℕ)) (run : Run) : Type 0 where
  pub in_order : run.start ≤ run.end
  pub in_range : run.end ≤ length ids
  pub is : (kind : Kind) → IsSortedIds ids → IsRun (kind_digits kind digits) ids (run_in run)

-- what a look-up returns, and leaves, by whether there are too many digits
abbrev pub FoundBy : Bool → List ℕ → List (List ℕ) → ℕ → Run → Run → Type 0
FoundBy true digits ids code old new = (code ≡ PREFIX_TOO_LONG) × (new ≡ old)
FoundBy false digits ids code old new = (code ≡ OK) × IsRunIfSorted digits ids new

-- the result of a look-up in a table, whose kind or prefix may be bad
abbrev pub FindAnswer : Option Kind → List ℕ → Option (List ℕ) → ℕ → Run → Run → Type 0
FindAnswer None table prefix code old new = (code ≡ BAD_KIND) × (new ≡ old)
FindAnswer (Some kind) table None code old new = (code ≡ BAD_LENGTH) × (new ≡ old)
FindAnswer (Some kind) table (Some digits) code old new =
    FoundBy (nat_lt (hex_len_of kind) (length digits)) digits (digests_in kind table) code old new

-- what the test of an order returns, and leaves
abbrev pub SortedAnswer : Option Kind → List ℕ → ℕ → ℕ → ℕ → Type 0
SortedAnswer None table code old new = (code ≡ BAD_KIND) × (new ≡ old)
SortedAnswer (Some kind) table code old new =
    ((code ≡ OK) × IsSortedIds (digests_in kind table) × (new ≡ old))
    ⊎ ((code ≡ UNSORTED) × IsFirstUnsorted (digests_in kind table) new)

-- What is returned for the bytes of a pack index. All calls but the whole check test only the head and the lengths of the tables.

-- the number of a cause for which bytes are no pack index
abbrev pub cause_number : Error → ℕ
cause_number TooShort = 16
cause_number Version1 = 17
cause_number BadMagic = 18
cause_number (BadVersion version) = 19
cause_number WrongLength = 20
cause_number (IdsFall at) = 21
cause_number (WrongCount byte) = 22
cause_number (NoOffset at) = 23
cause_number (LongOutOfOrder at) = 24
cause_number (SpareLong number) = 25
cause_number (OffsetInHeader at) = 26
cause_number (OffsetTooHigh at) = 27
cause_number WrongChecksum = 28
cause_number (OtherKind other) = 29

-- and its detail, if it has one
abbrev pub detail_of : Error → ℕ → ℕ
detail_of (BadVersion version) old = version
detail_of (IdsFall at) old = at
detail_of (WrongCount byte) old = byte
detail_of (NoOffset at) old = at
detail_of (LongOutOfOrder at) old = at
detail_of (SpareLong number) old = number
detail_of (OffsetInHeader at) old = at
detail_of (OffsetTooHigh at) old = at
detail_of (OtherKind other) old = number_of other
detail_of _ old = old

-- what the whole check returns, and leaves
abbrev pub CheckAnswer : Option Kind → List ℕ → ℕ → ℕ → ℕ → Type 0
CheckAnswer None bytes code old new = (code ≡ BAD_KIND) × (new ≡ old)
CheckAnswer (Some kind) bytes code old new =
    ((code ≡ OK) × IsPackIndex kind bytes × (new ≡ old))
    ⊎ ((e : Error) × IsRefusal kind bytes e × (code ≡ cause_number e) × (new ≡ detail_of e old))

-- the head is that of an index, and the tables have its lengths: what each call tests
abbrev pub IsLaidOut : Kind → List ℕ → Type 0
IsLaidOut kind bytes = HasHead kind bytes × HasTables kind bytes

-- why the bytes are no pack index: the first fault of one of SHA-256, if the tables of such an index fill them, and else of one of SHA-1
abbrev pub IsFaultByTables : List ℕ → Error → Type 0
IsFaultByTables bytes error =
    (IsLaidOut Sha256 bytes × IsFault Sha256 bytes error) ⊎ ((¬ IsLaidOut Sha256 bytes) × IsFault Sha1 bytes error)

-- what is returned of the kind, and left
abbrev pub PackKindAnswer : List ℕ → ℕ → ℕ → ℕ → Type 0
PackKindAnswer bytes code old new =
    ((code ≡ OK) × IsPackIndex Sha1 bytes × (new ≡ number_of Sha1))
    ⊎ (((code ≡ OK) × IsPackIndex Sha256 bytes × (¬ IsPackIndex Sha1 bytes) × (new ≡ number_of Sha256))
    ⊎ ((new ≡ old) × (¬ IsPackIndex Sha1 bytes) × (¬ IsPackIndex Sha256 bytes)
    × ((e : Error) × IsFaultByTables bytes e × (code ≡ cause_number e))))

-- the number of a cause for which the bytes are no pack index, one of those that lie in the head and the lengths of the tables
abbrev pub IsTablesFault : Kind → List ℕ → ℕ → Type 0
IsTablesFault kind bytes code =
    (e : Error) × IsFault kind bytes e × (¬ IsLaidOut kind bytes) × (code ≡ cause_number e)

-- how many ids there are
abbrev pub LenAnswer : Option Kind → List ℕ → ℕ → ℕ → ℕ → Type 0
LenAnswer None bytes code old new = (code ≡ BAD_KIND) × (new ≡ old)
LenAnswer (Some kind) bytes code old new =
    ((code ≡ OK) × IsLaidOut kind bytes × (new ≡ length (ids_in kind bytes)))
    ⊎ ((new ≡ old) × IsTablesFault kind bytes code)

-- what the tables contain at a position
pub record IsEntry (kind : Kind) (bytes : List ℕ) (at : ℕ) (entry : Entry) : Type 0 where
  pub offset : entry.offset ≡ offset_in kind bytes at
  pub crc : entry.crc ≡ crc_in kind bytes at
  pub id : HoldsId (kind_digits kind (slice_index_or (ids_in kind bytes) at [])) entry.id

-- why there is none
abbrev pub IsNoEntry : Kind → List ℕ → ℕ → ℕ → Type 0
IsNoEntry kind bytes at code =
    ((code ≡ OUT_OF_RANGE) × IsLaidOut kind bytes × (num_objects bytes ≤ at))
    ⊎ (((code ≡ cause_number (NoOffset at)) × IsLaidOut kind bytes × (at < num_objects bytes) × (¬ HasOffset kind bytes at)) ⊎ IsTablesFault kind bytes code)

-- the result of reading an entry
abbrev pub EntryAnswer : Option Kind → List ℕ → ℕ → ℕ → Entry → Entry → Type 0
EntryAnswer None bytes at code old new = (code ≡ BAD_KIND) × (new ≡ old)
EntryAnswer (Some kind) bytes at code old new =
    ((code ≡ OK) × IsLaidOut kind bytes × (at < num_objects bytes) × HasOffset kind bytes at × IsEntry kind bytes at new)
    ⊎ ((new ≡ old) × IsNoEntry kind bytes at code)

-- why there is no object at a position
abbrev pub IsNoObject : Kind → List ℕ → ℕ → ℕ → Type 0
IsNoObject kind bytes at code =
    ((code ≡ OUT_OF_RANGE) × IsLaidOut kind bytes × (num_objects bytes ≤ at)) ⊎ IsTablesFault kind bytes code

-- the id of the object at a position
abbrev pub IdAtAnswer : Option Kind → List ℕ → ℕ → ℕ → Id → Id → Type 0
IdAtAnswer None bytes at code old new = (code ≡ BAD_KIND) × (new ≡ old)
IdAtAnswer (Some kind) bytes at code old new =
    ((code ≡ OK) × IsLaidOut kind bytes × (at < num_objects bytes) × HoldsId (kind_digits kind (slice_index_or (ids_in kind bytes) at [])) new)
    ⊎ ((new ≡ old) × IsNoObject kind bytes at code)

-- the run of a prefix
abbrev pub PackFindAnswer : Option Kind → List ℕ → Option (List ℕ) → ℕ → Run → Run → Type 0
PackFindAnswer None bytes prefix code old new = (code ≡ BAD_KIND) × (new ≡ old)
PackFindAnswer (Some kind) bytes None code old new = (code ≡ BAD_LENGTH) × (new ≡ old)
PackFindAnswer (Some kind) bytes (Some digits) code old new =
    ((code ≡ PREFIX_TOO_LONG) × (hex_len_of kind < length digits) × (new ≡ old))
    ⊎ ((length digits ≤ hex_len_of kind) × (((code ≡ OK) × IsLaidOut kind bytes × IsRunIfSorted digits (ids_in kind bytes) new)
    ⊎ ((new ≡ old) × IsTablesFault kind bytes code)))

-- as many first digits are the abbreviation of the object at a position, if the ids are sorted
abbrev pub IsShortest : Kind → List ℕ → ℕ → ℕ → Type 0
IsShortest kind bytes at hex_len =
    IsSortedIds (ids_in kind bytes) → IsShortestAbbreviation (ids_in kind bytes) at (take hex_len (slice_index_or (ids_in kind bytes) at []))

-- why there is none
abbrev pub HasNoAbbreviation : Kind → List ℕ → ℕ → ℕ → Type 0
HasNoAbbreviation kind bytes at code =
    ((code ≡ NOT_UNIQUE) × IsLaidOut kind bytes × (at < num_objects bytes)
    × (IsSortedIds (ids_in kind bytes) → (name : List ℕ) → ¬ IsShortestAbbreviation (ids_in kind bytes) at name))
    ⊎ IsNoObject kind bytes at code

-- the result of abbreviating
abbrev pub ShortestAnswer : Option Kind → List ℕ → ℕ → ℕ → ℕ → ℕ → Type 0
ShortestAnswer None bytes at code old new = (code ≡ BAD_KIND) × (new ≡ old)
ShortestAnswer (Some kind) bytes at code old new =
    ((code ≡ OK) × IsLaidOut kind bytes × (at < num_objects bytes) × (4 ≤ new) × (new ≤ hex_len_of kind) × IsShortest kind bytes at new)
    ⊎ ((new ≡ old) × HasNoAbbreviation kind bytes at code)
