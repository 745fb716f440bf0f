-- What is printed of pack indexes, packs and other files, and what is rejected.
use Rattle.std.specs.Prelude.{[], ℕ, ◌++◌, ◌<◌, ◌==◌, ◌||◌, ◌↔◌, ◌∷◌, ◌≡◌, ◌≢◌, ◌≤◌, ◌⊎◌, Bool, IsTrue, List, None, Option, Some, codes, decimal, flat_map, if◌then◌else◌, length, slice_index_or, slice_range}
use Rattle.std.specs.Int.{to_be_bytes, w32}
use Rattle.std.specs.Io.KnownBytes.{Appends}
use Rattle.std.specs.List.{list_any, range_with_len}
use Rattle.hex.specs.Hex.{encode_lower}
use Rattle.id_lookup.specs.Words.{Kind, ObjectId, Sha1, Sha256, byte_len_of, digits_of, hex_letter, id_bytes, id_digits, spelling}
use Rattle.streams.specs.Streams.{AppendsBeginning}
use Rattle.streams.specs.declared.checking.Ending.{Ending}
use Rattle.streams.specs.declared.checking.Ending.TheVariants.{Sealed, Unsealed}
use Rattle.pack_index.specs.Format.{Each, HasHead, HasTables, IndexFile, IsFault, IsFirstNot, IsPackIndex, IsRefusal, crc_in, digest_at, ids_in, offset_in, other_than, tables_end}
use Rattle.pack_index.specs.declared.error.Error.{Error}
use Rattle.pack_index.specs.declared.error.Error.TheVariants.{Version1}
use Rattle.packtool_commands.specs.declared.error.FileError.{FileError}
use Rattle.packtool_commands.specs.declared.error.FileError.TheVariants.{Index, Input, Memory, Output}
use Rattle.packtool_commands.specs.declared.pairing.LastDigest.{LastDigest}
use Rattle.packtool_commands.specs.declared.pairing.Pairing.{Pairing}
use Rattle.packtool_commands.specs.declared.pairing.Pairing.TheVariants.{Beyond, Other, Same}

-- Names of files in lines, as `sha1sum` prints them.

-- whether a byte is escaped: a backslash, a line feed or a carriage return
abbrev pub is_special : ℕ → Bool
is_special byte = byte == 92 || (byte == 10 || byte == 13)

-- what is printed for a byte of a name
unfoldable pub escape_of : ℕ → List ℕ
escape_of byte = if byte == 92 then 92 ∷ 92 ∷ [] else if byte == 10 then 92 ∷ 110 ∷ [] else if byte == 13 then 92 ∷ 114 ∷ [] else byte ∷ []

-- what is printed for a name
abbrev pub escaped : List ℕ → List ℕ
escaped name = flat_map escape_of name

-- what begins the line of a name: a backslash if the name has a byte that is escaped
abbrev pub escape_mark : List ℕ → List ℕ
escape_mark name = if list_any is_special name then 92 ∷ [] else []

-- the line of a file: its name, and a text after that
abbrev pub file_line : List ℕ → List ℕ → List ℕ
file_line name text = escape_mark name ++ (escaped name ++ text)

-- The lines of a pack index, as `git show-index` prints them.

-- all lines so far were written except the last ones, which are kept back
pub record KeepsBack (old new : Option (List ℕ)) (kept lines : List ℕ) : Type 0 where
  pub written : List ℕ
  pub all : lines ≡ written ++ kept
  pub appends : Appends old new written

-- the digits of the id of the object at a position
abbrev pub id_at : Kind → List ℕ → ℕ → List ℕ
id_at kind bytes k = slice_index_or (ids_in kind bytes) k []

-- a CRC in eight hex digits
unfoldable pub crc_text : ℕ → List ℕ
crc_text crc = encode_lower (to_be_bytes w32 crc)

-- the texts of an offset, an id and a CRC in a line: spaces between them, parentheses around the CRC, and a line feed
unfoldable pub line_of_object : List ℕ → List ℕ → List ℕ → List ℕ
line_of_object offset id crc = offset ++ 32 ∷ id ++ 32 ∷ 40 ∷ crc ++ 41 ∷ 10 ∷ []

-- the line of the object at a position: its offset in decimal, its id in hex, and its CRC
abbrev pub index_line : Kind → List ℕ → ℕ → List ℕ
index_line kind bytes k = line_of_object (decimal (offset_in kind bytes k)) (spelling hex_letter (id_at kind bytes k)) (crc_text (crc_in kind bytes k))

-- the lines of all ids
abbrev pub index_lines : Kind → List ℕ → List ℕ
index_lines kind bytes = flat_map (index_line kind bytes) (range_with_len 0 (length (ids_in kind bytes)))

-- The lines of checked files.

-- an id in hex
abbrev pub hex_of : ObjectId → List ℕ
hex_of id = spelling hex_letter (id_digits id)

-- what is printed after the name of a file
abbrev pub verdict : Ending → List ℕ
verdict (Sealed id) = codes ": OK" ++ 10 ∷ []
verdict (Unsealed digest (Some last)) = codes ": FAILED: it ends in " ++ hex_of last ++ codes ", and the digest of the rest is " ++ hex_of digest ++ 10 ∷ []
verdict (Unsealed digest None) = codes ": FAILED: it is shorter than a digest" ++ 10 ∷ []

-- Whether a pack index belongs to a pack.

-- the digest of its pack that an index has
abbrev pub named_digest : Kind → List ℕ → List ℕ
named_digest kind index = slice_range index (tables_end kind index) (digest_at kind index)

-- the bytes in which a pack ends, as many as a digest has, or all if they are fewer
abbrev pub last_bytes : Kind → List ℕ → List ℕ
last_bytes kind pack = slice_range pack (digest_at kind pack) (length pack)

-- the id is the digest in which a pack ends; there is none if its bytes are too few
abbrev pub IsLastDigest : Kind → List ℕ → Option ObjectId → Type 0
IsLastDigest kind pack (Some id) = (byte_len_of kind ≤ length pack) × (id_bytes id ≡ last_bytes kind pack)
IsLastDigest kind pack None = length pack < byte_len_of kind

-- the same with its position
abbrev pub EndsIn : Kind → List ℕ → Option LastDigest → Type 0
EndsIn kind pack (Some last) = IsLastDigest kind pack (Some last.id) × (last.at ≡ digest_at kind pack)
EndsIn kind pack None = IsLastDigest kind pack None

-- the offset of an object of an index is below a number
abbrev pub IsOffsetBelow : Kind → List ℕ → ℕ → ℕ → Type 0
IsOffsetBelow kind index end k = offset_in kind index k < end

-- the offset is that of the first object whose offset is not
abbrev pub IsFirstBeyond : Kind → List ℕ → ℕ → ℕ → Type 0
IsFirstBeyond kind index end offset =
    (k : ℕ) × IsFirstNot (IsOffsetBelow kind index end) (length (ids_in kind index)) k × (offset ≡ offset_in kind index k)

-- whether an index belongs to a pack, by the bytes of both: it has the digest in which the pack ends, and its offsets are before that
abbrev pub IsPairing : Kind → List ℕ → List ℕ → Pairing → Type 0
IsPairing kind index pack Same =
    (named_digest kind index ≡ last_bytes kind pack) × Each (IsOffsetBelow kind index (digest_at kind pack)) (length (ids_in kind index))
IsPairing kind index pack (Other id last) =
    (id_digits id ≡ digits_of (named_digest kind index)) × IsLastDigest kind pack last × (named_digest kind index ≢ last_bytes kind pack)
IsPairing kind index pack (Beyond offset) =
    (named_digest kind index ≡ last_bytes kind pack) × IsFirstBeyond kind index (digest_at kind pack) offset

-- what is printed after the name of an index
abbrev pub pairing_verdict : Pairing → List ℕ
pairing_verdict Same = codes ": OK" ++ 10 ∷ []
pairing_verdict (Other named (Some found)) = codes ": FAILED: its pack ends in " ++ hex_of named ++ codes ", and the pack beside it ends in " ++ hex_of found ++ 10 ∷ []
pairing_verdict (Other named None) = codes ": FAILED: its pack ends in " ++ hex_of named ++ codes ", and the pack beside it is shorter than a digest" ++ 10 ∷ []
pairing_verdict (Beyond offset) = codes ": FAILED: the offset " ++ decimal offset ++ codes " is not in the pack beside it" ++ 10 ∷ []

-- What is printed of a pack index, and what is rejected.

-- the bytes are this index, of the kind or, if none is given, of either
abbrev pub IsOpenedAs : Option Kind → List ℕ → IndexFile → Type 0
IsOpenedAs (Some kind) bytes file = (file ≡ record { kind = kind; bytes = bytes }) × IsPackIndex kind bytes
IsOpenedAs None bytes file = (file.bytes ≡ bytes) × IsPackIndex file.kind bytes

-- the bytes are as many as an index of the kind has, by its header: one of version 2, or of version 1
abbrev pub HasLengthOf : Kind → List ℕ → Type 0
HasLengthOf kind bytes = (HasHead kind bytes × HasTables kind bytes) ⊎ IsFault kind bytes Version1

-- the kind of the ids of an index, by its length
abbrev pub IsKindByLength : List ℕ → Kind → Type 0
IsKindByLength bytes Sha256 = HasLengthOf Sha256 bytes
IsKindByLength bytes Sha1 = ¬ HasLengthOf Sha256 bytes

-- why the bytes are not an index of the kind; or, if no kind is given, their fault as an index of the kind that their length says, and they are not an index of the other kind either
abbrev pub IsRefusalAs : Option Kind → List ℕ → Error → Type 0
IsRefusalAs (Some kind) bytes error = IsRefusal kind bytes error
IsRefusalAs None bytes error = (kind : Kind) × IsKindByLength bytes kind × (¬ IsPackIndex (other_than kind) bytes) × IsFault kind bytes error

-- the bytes are an index, all of whose lines were written, and whether there is one is this
pub record HasShown (kind : Option Kind) (bytes : List ℕ) (any : Bool) (old new : Option (List ℕ)) : Type 0 where
  pub file : IndexFile
  pub is_opened : IsOpenedAs kind bytes file
  pub found : IsTrue any ↔ (ids_in file.kind file.bytes ≢ [])
  pub written : Appends old new (index_lines file.kind file.bytes)

-- the bytes are an index, and a proper beginning of its lines was written
pub record HasBegunShowing (kind : Option Kind) (bytes : List ℕ) (old new : Option (List ℕ)) : Type 0 where
  pub file : IndexFile
  pub is_opened : IsOpenedAs kind bytes file
  pub written : AppendsBeginning old new (index_lines file.kind file.bytes)

-- the cause of an error, if the bytes decide it
abbrev pub IsFileRefusal : Option Kind → List ℕ → FileError → Type 0
IsFileRefusal kind bytes (Index error) = IsRefusalAs kind bytes error
IsFileRefusal kind bytes Memory = bytes ≢ []
IsFileRefusal kind bytes Input = Unit {0}
IsFileRefusal kind bytes Output = Unit {0}
