-- Pack indexes that are read at positions, and not whole.
use Rattle.std.specs.Prelude.{◌≡◌, ℕ, zero, suc, ◌+◌, ◌-◌, ◌*◌, ◌^◌, ◌<◌, ◌≤◌, ◌&&◌, Bool, true, if◌then◌else◌, IsTrue, Option, None, Some, List, [], ◌++◌, All, bytes_eq, count_by, length, nat_eq, nat_le, nat_lt, option_map, slice_index_or, slice_range}
use Rattle.std.specs.List.{position, starts_with}
use Rattle.std.specs.Option.{ForSome}
use Rattle.id_digits.specs.Digits.{word}
use Rattle.id_lookup.specs.Words.{IsSortedIds, Kind, byte_len_of, first_byte_of, has_first_byte, is_up_to, matches}
use Rattle.pack_index.specs.Format.{Each, HasHead, HasTables, IsFirstNot, IsHeadFault, digests_in, is_long, long_entry, ids_in, ids_start, num_objects, offset_in, tables_end, word_at}
use Rattle.pack_index.specs.declared.front.Front.{Front}
use Rattle.pack_index.specs.declared.layout.IdTable.{IdTable}
use Rattle.pack_index.specs.declared.layout.Layout.{Layout}
use Rattle.pack_index.specs.declared.layout.Layout.TheVariants.{Index, Multi}
use Rattle.pack_index.specs.declared.lazy_error.LazyError.{LazyError}
use Rattle.pack_index.specs.declared.lazy_error.LazyError.TheVariants.{Read, Memory, Head, CountsFall, WrongCount, NoOffset}

-- what the tables of a pack index say: its ids, in their order; for each byte how many of them have at most that first byte, by the fan-out table; and the offset
-- of the object at a position, if a table has it
pub record Tables : Type 0 where
  pub ids : List (List ℕ)
  pub up_to : ℕ → ℕ
  pub offset : ℕ → Option ℕ

-- the fan-out entry of a byte
abbrev pub fan_out : List ℕ → ℕ → ℕ
fan_out bytes byte = word_at bytes (8 + 4 * byte)

-- where a table of ids ends
abbrev pub end_of : IdTable → ℕ
end_of table = table.start + byte_len_of table.kind * table.count

-- its ids in some bytes
abbrev pub ids_of : IdTable → List ℕ → List (List ℕ)
ids_of table bytes = digests_in table.kind (slice_range bytes table.start (end_of table))

-- where the ids begin
abbrev pub first_id : Layout → ℕ
first_id Index = ids_start
first_id (Multi counts ids) = ids

-- the ids in some bytes that are a pack index, where they begin after 8 other bytes and the fan-out table, or a multi-pack-index
abbrev pub ids_at : Kind → Layout → List ℕ → List (List ℕ)
ids_at kind Index bytes = ids_of (record { kind = kind; start = 1032; count = word_at bytes 1028 }) bytes
ids_at kind (Multi counts ids) bytes = ids_of (record { kind = kind; start = ids; count = word_at bytes (counts + 1020) }) bytes

-- how many of them have at most a first byte, by the fan-out table
abbrev pub up_to_at : Layout → List ℕ → ℕ → ℕ
up_to_at Index bytes byte = word_at bytes (8 + 4 * byte)
up_to_at (Multi counts ids) bytes byte = word_at bytes (counts + 4 * byte)

-- the fan-out table is right: each entry is the number of ids with at most its first byte
abbrev pub HasRightCounts : Kind → Layout → List ℕ → Type 0
HasRightCounts kind layout bytes = (byte : ℕ) → byte < 256 → up_to_at layout bytes byte ≡ count_by (λ id. nat_le (first_byte_of id) byte) (ids_at kind layout bytes)

-- the offset of the object at a position, if a table has it: of a multi-pack-index none is read
abbrev pub offset_at : Kind → Layout → List ℕ → ℕ → Option ℕ
offset_at kind Index bytes k = if is_long kind bytes k && nat_lt (tables_end kind bytes) (long_entry kind bytes k + 8) then None else Some (offset_in kind bytes k)
offset_at kind (Multi counts ids) bytes k = None

-- what the tables of these bytes say
abbrev pub tables_of : Kind → Layout → List ℕ → Tables
tables_of kind layout bytes = record { ids = ids_at kind layout bytes; up_to = up_to_at layout bytes; offset = offset_at kind layout bytes }

-- a fan-out table that was read, after 8 other bytes, is that of the tables in some bytes; the ids that it counts are in them; and the tables of a pack index fill
-- them up to the digests
pub record HasLayout (kind : Kind) (layout : Layout) (head : List ℕ) (end : ℕ) (bytes : List ℕ) : Type 0 where
  pub counts : Each (λ byte. fan_out head byte ≡ up_to_at layout bytes byte) 256
  pub inside : first_id layout + byte_len_of kind * num_objects head ≤ length bytes
  pub fills : layout ≡ Index → HasTables kind bytes
  pub ends : layout ≡ Index → end ≡ tables_end kind bytes

-- what contracts see: the kind of the ids, where they are, their number as the last fan-out entry says, all bytes if they are known, the path of what they are
-- read from, if it has one, and whether a read of them may fail
pub record LazyIndex : Type 0 where
  pub kind : Kind
  pub layout : Layout
  pub count : ℕ
  pub content : Option (List ℕ)
  pub path : List ℕ
  pub can_fail : Bool

-- what a look-up sees of a pack index: the kind of the ids, their number, the tables if they are known, and whether a read may fail
pub record IndexView : Type 0 where
  pub kind : Kind
  pub count : ℕ
  pub tables : Option Tables
  pub can_fail : Bool

-- what a look-up sees of one
abbrev pub seen : LazyIndex → IndexView
seen index = record { kind = index.kind; count = index.count; tables = option_map (tables_of index.kind index.layout) index.content; can_fail = index.can_fail }

-- where the ids with the first byte begin, by fan-out entries
abbrev pub bucket_start : (ℕ → ℕ) → ℕ → ℕ
bucket_start up_to zero = 0
bucket_start up_to (suc before) = up_to before

-- the fan-out entry of the byte is not below the one before it
abbrev pub Rises : (ℕ → ℕ) → ℕ → Type 0
Rises up_to byte = bucket_start up_to byte ≤ up_to byte

-- each fan-out entry is the number of ids with at most that first byte
abbrev pub HaveRightCounts : Tables → Type 0
HaveRightCounts tables = Each (λ byte. tables.up_to byte ≡ count_by (is_up_to byte) tables.ids) 256

-- the ids with the first byte, by the fan-out table
abbrev pub counted_with : Tables → ℕ → List (List ℕ)
counted_with tables byte = slice_range tables.ids (bucket_start tables.up_to byte) (tables.up_to byte)

-- each id has the first byte
abbrev pub HaveFirstByte : ℕ → List (List ℕ) → Type 0
HaveFirstByte byte ids = All (λ id. IsTrue (has_first_byte byte id)) ids

-- the fan-out entries around a first byte are in order and at most the number of ids, and each id between them has that first byte
pub record HasBucket (tables : Tables) (byte : ℕ) : Type 0 where
  pub in_order : bucket_start tables.up_to byte ≤ tables.up_to byte
  pub inside : tables.up_to byte ≤ length tables.ids
  pub first : HaveFirstByte byte (counted_with tables byte)

-- the position of the id of these digits, the first one of those that are counted with its first byte
abbrev pub position_of : List ℕ → Tables → Option ℕ
position_of digits tables =
    option_map (λ k. bucket_start tables.up_to (first_byte_of digits) + k) (position (λ id. bytes_eq id digits) (counted_with tables (first_byte_of digits)))

-- what contracts see of a bucket: the kind of its ids, the position of the first of them in the pack index, and the ids
pub record BucketIds : Type 0 where
  pub kind : Kind
  pub start : ℕ
  pub ids : List (List ℕ)

-- these are the ids from the position on
abbrev pub AreFrom : BucketIds → Tables → Type 0
AreFrom part tables = part.ids ≡ slice_range tables.ids part.start (part.start + length part.ids)

-- the ids of a pack index from one position to another, each of which has the first byte
pub record AreBetween (index : IndexView) (byte from to : ℕ) (part : BucketIds) : Type 0 where
  pub kind : part.kind ≡ index.kind
  pub start : part.start ≡ from
  pub end : part.start + length part.ids ≡ to
  pub first : HaveFirstByte byte part.ids
  pub known : ForSome index.tables (AreFrom part)

-- the ids that the fan-out table counts with the first byte have it, and are sorted
pub record IsOrdered (tables : Tables) (byte : ℕ) : Type 0 where
  pub right : HasBucket tables byte
  pub sorted : IsSortedIds (counted_with tables byte)

-- the ids from one position to another begin with the digits only between two others
abbrev pub BeginWithin : List (List ℕ) → List ℕ → ℕ → ℕ → ℕ → ℕ → Type 0
BeginWithin names digits start end from to =
    (k : ℕ) → start ≤ k → k < end → starts_with nat_eq (slice_index_or names k []) digits ≡ true → (from ≤ k) × (k < to)

-- if the ids from one position to another are sorted, they begin with the digits only between two others
abbrev pub AreWithin : List (List ℕ) → List ℕ → ℕ → ℕ → ℕ → ℕ → Type 0
AreWithin names digits start end from to = IsSortedIds (slice_range names start end) → BeginWithin names digits start end from to

-- they are, of the ids that the fan-out table counts with the first byte of the digits, all from one position to another, and those before and after them do not
-- begin with the digits; and if the table is right, no other id of the pack index does
pub record AreAmong (tables : Tables) (digits : List ℕ) (part : BucketIds) : Type 0 where
  pub right : HasBucket tables (first_byte_of digits)
  pub before : List (List ℕ)
  pub after : List (List ℕ)
  pub all : counted_with tables (first_byte_of digits) ≡ before ++ (part.ids ++ after)
  pub start : part.start ≡ bucket_start tables.up_to (first_byte_of digits) + length before
  pub none_before : matches digits before ≡ []
  pub none_after : matches digits after ≡ []
  pub complete : HaveRightCounts tables → matches digits part.ids ≡ matches digits tables.ids

-- ids of a pack index with the first byte of the digits: all that begin with the digits, if the fan-out table is right
pub record IsPartOf (index : IndexView) (digits : List ℕ) (part : BucketIds) : Type 0 where
  pub kind : part.kind ≡ index.kind
  pub inside : part.start + length part.ids ≤ index.count
  pub first : HaveFirstByte (first_byte_of digits) part.ids
  pub known : ForSome index.tables (λ tables. AreAmong tables digits part)

-- at most 16 digits: the number that they write, with zeros after them, and ones for their bits in it
pub record AreFront (digits : List ℕ) (front : Front) : Type 0 where
  pub in_range : All (λ d. d < 16) digits
  pub most : length digits ≤ 16
  pub number : front.word ≡ word 16 digits
  pub mask : front.mask ≡ 2 ^ 64 - 2 ^ (4 * (16 - length digits))

-- a read failed that may, or memory ran out
abbrev pub IsReadOrMemory : Bool → LazyError → Type 0
IsReadOrMemory can_fail (Read e) = IsTrue can_fail
IsReadOrMemory can_fail (Memory e) = Unit {0}
IsReadOrMemory can_fail _ = ⊥

-- why bytes are not opened, of which a read may fail or not
abbrev pub IsOpenFault : Bool → Kind → List ℕ → LazyError → Type 0
IsOpenFault can_fail kind bytes (Read e) = IsTrue can_fail
IsOpenFault can_fail kind bytes (Head error) = IsHeadFault kind bytes (length bytes) error
IsOpenFault can_fail kind bytes (CountsFall b) = HasHead kind bytes × HasTables kind bytes × IsFirstNot (Rises (fan_out bytes)) 256 b
IsOpenFault can_fail kind bytes _ = ⊥

-- why these ids are not read as those with a first byte
abbrev pub IsRunFault : Bool → List (List ℕ) → ℕ → LazyError → Type 0
IsRunFault can_fail ids byte (Read e) = IsTrue can_fail
IsRunFault can_fail ids byte (Memory e) = Unit {0}
IsRunFault can_fail ids byte (WrongCount b) = (b ≡ byte) × ¬ HaveFirstByte byte ids
IsRunFault can_fail ids byte _ = ⊥

-- why the ids with a first byte are not read
abbrev pub IsBucketFault : Bool → Tables → ℕ → LazyError → Type 0
IsBucketFault can_fail tables byte (Read e) = IsTrue can_fail
IsBucketFault can_fail tables byte (Memory e) = Unit {0}
IsBucketFault can_fail tables byte (WrongCount b) =
    (b ≡ byte) × (byte < 256) × Rises tables.up_to byte × (tables.up_to byte ≤ length tables.ids) × ¬ HaveFirstByte byte (counted_with tables byte)
IsBucketFault can_fail tables byte _ = ⊥

-- why an object's offset is not read
abbrev pub IsOffsetFault : Bool → Tables → ℕ → LazyError → Type 0
IsOffsetFault can_fail tables at (Read e) = IsTrue can_fail
IsOffsetFault can_fail tables at (NoOffset k) = (k ≡ at) × (at < length tables.ids) × (tables.offset at ≡ None)
IsOffsetFault can_fail tables at _ = ⊥
