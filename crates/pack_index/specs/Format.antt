-- Git's pack index of version 2 (gitformat-pack). Its bytes are: a magic number and the version; the fan-out table, that is for each byte how many
-- ids have at most that first byte; the ids of the objects, digests of the index's kind; a CRC of four bytes for each object; an offset of four bytes
-- for each; 8-byte offsets; the digest of the pack; and the digest of all before it. Numbers are written with the highest byte first.
use Rattle.std.specs.Prelude.{[], ℕ, ◌%◌, ◌*◌, ◌+◌, ◌-◌, ◌/◌, ◌<◌, ◌^◌, ◌∷◌, ◌≡◌, ◌≢◌, ◌≤◌, ◌⊎◌, Bool, List, count_by, if◌then◌else◌, length, map, nat_le, nat_lt, slice_index, slice_index_or, slice_range, suc, zero}
use Rattle.std.specs.Int.{from_be_bytes, w32}
use Rattle.std.specs.Simd.{first_chunks}
use Rattle.id_lookup.specs.Words.{EndsInDigest, IsFirstUnsorted, IsSortedIds, Kind, Sha1, Sha256, byte_len_of, digits_of, is_up_to}
use Rattle.pack_index.specs.declared.error.Error.{Error}
use Rattle.pack_index.specs.declared.error.Error.TheVariants.{BadMagic, BadVersion, LongOutOfOrder, IdsFall, NoOffset, OffsetInHeader, OffsetTooHigh, OtherKind, SpareLong, TooShort, Version1, WrongChecksum, WrongCount, WrongLength}
use Rattle.pack_index.specs.declared.digests.SortedDigests.{SortedDigests}
use Rattle.pack_index.specs.declared.digests.SortedDigests.TheVariants as lists

-- each number below n is P
abbrev pub Each : (ℕ → Type 0) → ℕ → Type 0
Each P n = (k : ℕ) → k < n → P k

-- the number is the first below n that is not P
abbrev pub IsFirstNot : (ℕ → Type 0) → ℕ → ℕ → Type 0
IsFirstNot P n at = (at < n) × Each P at × ¬ P at

-- what contracts see of a pack index: the kind of its ids, and its bytes
pub record IndexFile : Type 0 where
  pub kind : Kind
  pub bytes : List ℕ

-- the number that each index from version 2 on begins with: 255, and 't', 'O', 'c'
abbrev pub magic_number : ℕ
magic_number = 4285812579

-- the length of the fan-out table, 256 entries of four bytes each
abbrev pub counts_len : ℕ
counts_len = 1024

-- the length of the smallest index of any version, which is one of version 1 with no objects: the fan-out table and two digests
abbrev pub min_len : Kind → ℕ
min_len kind = counts_len + 2 * byte_len_of kind

-- where the ids begin, after the magic number, the version and the fan-out table
abbrev pub ids_start : ℕ
ids_start = 1032

-- the smallest word of the table of offsets that stands for an 8-byte offset: its highest bit is set
abbrev pub long_word : ℕ
long_word = 2147483648

-- the length of a pack's header, after which its first object begins
abbrev pub pack_header_len : ℕ
pack_header_len = 12

-- the digits of the whole digests of a kind that the bytes contain, one after the other
abbrev pub digests_in : Kind → List ℕ → List (List ℕ)
digests_in kind bytes = map digits_of (first_chunks (byte_len_of kind) (length bytes / byte_len_of kind) bytes)

-- the number that is written in the four bytes from a position on
unfoldable pub word_at : List ℕ → ℕ → ℕ
word_at bytes at = from_be_bytes w32 (slice_index bytes at ∷ slice_index bytes (at + 1) ∷ slice_index bytes (at + 2) ∷ slice_index bytes (at + 3) ∷ [])

-- the number of objects: the last entry of the fan-out table
abbrev pub num_objects : List ℕ → ℕ
num_objects bytes = word_at bytes (ids_start - 4)

-- where the CRCs begin, after the ids
abbrev pub crc_table_start : Kind → List ℕ → ℕ
crc_table_start kind bytes = ids_start + byte_len_of kind * num_objects bytes

-- where the offsets begin
abbrev pub offset_table_start : Kind → List ℕ → ℕ
offset_table_start kind bytes = crc_table_start kind bytes + 4 * num_objects bytes

-- where the 8-byte offsets begin, after the offsets of `count` objects
abbrev pub long_start : Kind → ℕ → ℕ
long_start kind count = ids_start + byte_len_of kind * count + 4 * count + 4 * count

-- where they begin in an index
abbrev pub long_table_start : Kind → List ℕ → ℕ
long_table_start kind bytes = long_start kind (num_objects bytes)

-- where the 8-byte offsets end, and the digest of the pack begins
abbrev pub tables_end : Kind → List ℕ → ℕ
tables_end kind bytes = length bytes - 2 * byte_len_of kind

-- where the digest of the pack ends, and that of the bytes before it begins
abbrev pub digest_at : Kind → List ℕ → ℕ
digest_at kind bytes = length bytes - byte_len_of kind

-- the ids of the objects, each as its digits
abbrev pub ids_in : Kind → List ℕ → List (List ℕ)
ids_in kind bytes = digests_in kind (slice_range bytes ids_start (crc_table_start kind bytes))

-- the CRC of the packed bytes of an object
abbrev pub crc_in : Kind → List ℕ → ℕ → ℕ
crc_in kind bytes k = word_at bytes (crc_table_start kind bytes + 4 * k)

-- what the table of offsets has for an object
abbrev pub offset_word : Kind → List ℕ → ℕ → ℕ
offset_word kind bytes k = word_at bytes (offset_table_start kind bytes + 4 * k)

-- where its 8-byte offset is, if it has one
abbrev pub long_entry : Kind → List ℕ → ℕ → ℕ
long_entry kind bytes k = long_table_start kind bytes + 8 * (offset_word kind bytes k - long_word)

-- the offset of an object in the pack: the word if that is below 2 ^ 31, and else the 8-byte offset of that number
abbrev pub offset_in : Kind → List ℕ → ℕ → ℕ
offset_in kind bytes k =
    if nat_lt (offset_word kind bytes k) long_word then offset_word kind bytes k
    else 2 ^ 32 * word_at bytes (long_entry kind bytes k) + word_at bytes (long_entry kind bytes k + 4)

-- whether an object has an 8-byte offset
abbrev pub is_long : Kind → List ℕ → ℕ → Bool
is_long kind bytes k = nat_le long_word (offset_word kind bytes k)

-- how many of the first n objects have 8-byte offsets
unfoldable pub longs_before : Kind → List ℕ → ℕ → ℕ
longs_before kind bytes zero = 0
longs_before kind bytes (suc n) = if is_long kind bytes n then longs_before kind bytes n + 1 else longs_before kind bytes n

-- the first of `len` bytes are those of an index of version 2, and there are no fewer than the smallest index has
pub record BeginsIndex (kind : Kind) (first : List ℕ) (len : ℕ) : Type 0 where
  pub enough : min_len kind ≤ len
  pub magic : word_at first 0 ≡ magic_number
  pub version : word_at first 4 ≡ 2

-- the bytes begin as an index of version 2
abbrev pub HasHead : Kind → List ℕ → Type 0
HasHead kind bytes = BeginsIndex kind bytes (length bytes)

-- the tables of `count` objects fill `len` bytes up to the digests. There are fewer 8-byte offsets than objects, since the pack's first object, at
-- 12, needs none
pub record FillsBytes (kind : Kind) (count len : ℕ) : Type 0 where
  pub fits : long_start kind count + 2 * byte_len_of kind ≤ len
  pub whole : (len - 2 * byte_len_of kind - long_start kind count) % 8 ≡ 0
  pub most : len - 2 * byte_len_of kind ≤ long_start kind count + 8 * (count - 1)

-- the tables of an index fill its bytes
abbrev pub HasTables : Kind → List ℕ → Type 0
HasTables kind bytes = FillsBytes kind (num_objects bytes) (length bytes)

-- the fan-out entry of a byte is the number of ids with at most that first byte
abbrev pub HasCount : Kind → List ℕ → ℕ → Type 0
HasCount kind bytes b = word_at bytes (8 + 4 * b) ≡ count_by (is_up_to b) (ids_in kind bytes)

-- the fan-out table is right: each entry is the number of ids with at most its first byte
abbrev pub HasCounts : Kind → List ℕ → Type 0
HasCounts kind bytes = Each (HasCount kind bytes) 256

-- an object's offset is in a table
abbrev pub HasOffset : Kind → List ℕ → ℕ → Type 0
HasOffset kind bytes k = long_word ≤ offset_word kind bytes k → long_entry kind bytes k + 8 ≤ tables_end kind bytes

-- if an object has an 8-byte offset, it is the next one: as many objects before have one
abbrev pub IsNextLong : Kind → List ℕ → ℕ → Type 0
IsNextLong kind bytes k = long_word ≤ offset_word kind bytes k → offset_word kind bytes k ≡ long_word + longs_before kind bytes k

-- each 8-byte offset is an object's
abbrev pub HasNoSpare : Kind → List ℕ → Type 0
HasNoSpare kind bytes = tables_end kind bytes ≤ long_table_start kind bytes + 8 * longs_before kind bytes (num_objects bytes)

-- an object's offset is after the pack's header
abbrev pub IsPastHeader : Kind → List ℕ → ℕ → Type 0
IsPastHeader kind bytes k = pack_header_len ≤ offset_in kind bytes k

-- an object's offset is a signed number of 64 bits
abbrev pub IsSigned : Kind → List ℕ → ℕ → Type 0
IsSigned kind bytes k = offset_in kind bytes k < 2 ^ 63

-- the ids are sorted, and the fan-out table is right. No id is below the previous one; one may occur twice
pub record HasIds (kind : Kind) (bytes : List ℕ) : Type 0 where
  pub head : HasHead kind bytes
  pub tables : HasTables kind bytes
  pub sorted : IsSortedIds (ids_in kind bytes)
  pub counts : HasCounts kind bytes

-- each object has an offset, and the 8-byte ones are used in the order of objects
pub record HasOffsets (kind : Kind) (bytes : List ℕ) : Type 0 where
  pub in_table : Each (HasOffset kind bytes) (num_objects bytes)
  pub in_order : Each (IsNextLong kind bytes) (num_objects bytes)
  pub no_spare : HasNoSpare kind bytes
  pub past_header : Each (IsPastHeader kind bytes) (num_objects bytes)
  pub signed : Each (IsSigned kind bytes) (num_objects bytes)

-- the bytes are a pack index whose ids are of the kind, and end in the digest of all before it
pub record IsPackIndex (kind : Kind) (bytes : List ℕ) : Type 0 where
  pub ids : HasIds kind bytes
  pub offsets : HasOffsets kind bytes
  pub checksum : EndsInDigest kind bytes

-- The ids of a pack index, as a sorted list of digests of either kind.

-- what contracts see of them: their digits
abbrev pub list_of : SortedDigests → List (List ℕ)
list_of (lists.Sha1 ids) = ids
list_of (lists.Sha256 ids) = ids

-- the id of these digits is at this position, and at none before it
pub record IsFirstIndexOf (names : List (List ℕ)) (digits : List ℕ) (at : ℕ) : Type 0 where
  pub in_range : at < length names
  pub same : slice_index_or names at [] ≡ digits
  pub first : (k : ℕ) → k < at → slice_index_or names k [] ≢ digits

-- Why bytes are not a pack index.

-- how long an index of version 1 is, which has no magic number: the fan-out table, the ids each after an offset of four bytes, and the digests
abbrev pub version_1_len : Kind → List ℕ → ℕ
version_1_len kind bytes = counts_len + byte_len_of kind * word_at bytes (counts_len - 4) + 4 * word_at bytes (counts_len - 4) + 2 * byte_len_of kind

-- the other kind
abbrev pub other_than : Kind → Kind
other_than Sha1 = Sha256
other_than Sha256 = Sha1

-- what is wrong with the first of `len` bytes, at least 1032 if there are as many as an index has, or with `len`: the fault holds, and none before it
abbrev pub IsHeadFault : Kind → List ℕ → ℕ → Error → Type 0
IsHeadFault kind first len TooShort = len < min_len kind
IsHeadFault kind first len Version1 = (min_len kind ≤ len) × (word_at first 0 ≢ magic_number) × (len ≡ version_1_len kind first)
IsHeadFault kind first len BadMagic = (min_len kind ≤ len) × (word_at first 0 ≢ magic_number) × (len ≢ version_1_len kind first)
IsHeadFault kind first len (BadVersion version) =
    (min_len kind ≤ len) × (word_at first 0 ≡ magic_number) × (version ≡ word_at first 4) × (version ≢ 2)
IsHeadFault kind first len (OtherKind other) =
    BeginsIndex kind first len × (¬ FillsBytes kind (num_objects first) len) × (other ≡ other_than kind) × FillsBytes (other_than kind) (num_objects first) len
IsHeadFault kind first len WrongLength =
    BeginsIndex kind first len × (¬ FillsBytes kind (num_objects first) len) × ¬ FillsBytes (other_than kind) (num_objects first) len
IsHeadFault kind first len _ = ⊥

-- the fault holds, and none before it, so bytes have at most one
abbrev pub IsFault : Kind → List ℕ → Error → Type 0
IsFault kind bytes (OtherKind other) = ⊥
IsFault kind bytes WrongLength = HasHead kind bytes × ¬ HasTables kind bytes
IsFault kind bytes (IdsFall at) = HasHead kind bytes × HasTables kind bytes × IsFirstUnsorted (ids_in kind bytes) at
IsFault kind bytes (WrongCount b) =
    HasHead kind bytes × HasTables kind bytes × IsSortedIds (ids_in kind bytes) × IsFirstNot (HasCount kind bytes) 256 b
IsFault kind bytes (NoOffset at) = HasIds kind bytes × IsFirstNot (HasOffset kind bytes) (num_objects bytes) at
IsFault kind bytes (LongOutOfOrder at) =
    HasIds kind bytes × Each (HasOffset kind bytes) (num_objects bytes) × IsFirstNot (IsNextLong kind bytes) (num_objects bytes) at
IsFault kind bytes (SpareLong number) =
    HasIds kind bytes × Each (HasOffset kind bytes) (num_objects bytes) × Each (IsNextLong kind bytes) (num_objects bytes)
    × (number ≡ longs_before kind bytes (num_objects bytes)) × ¬ HasNoSpare kind bytes
IsFault kind bytes (OffsetInHeader at) =
    HasIds kind bytes × Each (HasOffset kind bytes) (num_objects bytes) × Each (IsNextLong kind bytes) (num_objects bytes) × HasNoSpare kind bytes
    × IsFirstNot (IsPastHeader kind bytes) (num_objects bytes) at
IsFault kind bytes (OffsetTooHigh at) =
    HasIds kind bytes × Each (HasOffset kind bytes) (num_objects bytes) × Each (IsNextLong kind bytes) (num_objects bytes) × HasNoSpare kind bytes
    × Each (IsPastHeader kind bytes) (num_objects bytes) × IsFirstNot (IsSigned kind bytes) (num_objects bytes) at
IsFault kind bytes WrongChecksum = HasIds kind bytes × HasOffsets kind bytes × ¬ EndsInDigest kind bytes
IsFault kind bytes error = IsHeadFault kind bytes (length bytes) error

-- why bytes are rejected as a pack index of the kind: they are one of the other kind and none of this, or they are of neither and this is the first fault
abbrev pub IsRefusal : Kind → List ℕ → Error → Type 0
IsRefusal kind bytes error =
    ((error ≡ OtherKind (other_than kind)) × IsPackIndex (other_than kind) bytes × ¬ IsPackIndex kind bytes)
    ⊎ ((¬ IsPackIndex (other_than kind) bytes) × IsFault kind bytes error)
