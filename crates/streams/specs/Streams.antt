-- What is read and written, as lines of ids, and by hashing, sealing and checking.
use Rattle.std.specs.Prelude.{[], ℕ, ◌&&◌, ◌++◌, ◌+◌, ◌-◌, ◌<◌, ◌==◌, ◌^◌, ◌∷◌, ◌≡◌, ◌≢◌, ◌≤◌, ◌⊎◌, Bool, Err, List, None, Ok, OnErr, OnOk, Option, Result, Some, false, flat_map, if◌then◌else◌, length, not, slice_range, take, true}
use Rattle.std.specs.Io.KnownBytes.{Appends, Consumes, IsAtEnd}
use Rattle.std.specs.List.{slice_split}
use Rattle.gix_hash.specs.Words.{EndsInDigest, WasFed, byte_len_of, digest, digits_of, hasher_kind, hex_letter, id_bytes, id_digits, sealed, spelling}
use Rattle.gix_hash.specs.declared.Hasher.{Hasher}
use Rattle.gix_hash.specs.declared.Kind.{Kind}
use Rattle.gix_hash.specs.declared.ObjectId.{ObjectId}
use Rattle.streams.specs.declared.checking.Ending.{Ending}
use Rattle.streams.specs.declared.checking.Ending.TheVariants.{Sealed, Unsealed}
use Rattle.streams.specs.declared.pipe.PipeError.{PipeError}
use Rattle.streams.specs.declared.pipe.PipeError.TheVariants.{Input, Output, TooMuch}
use Rattle.streams.specs.declared.sink.WriteFailed.{WriteFailed}

-- Writes, and beginnings of what was to be written.

-- whether a write failed: it returned an error, or took none of at least one byte
abbrev pub write_fails : {E : Type 0} → Result ℕ E → List ℕ → Bool
write_fails (Ok n) bytes = n == 0 && not (length bytes == 0)
write_fails (Err e) bytes = true

-- a proper beginning of what was to be written was written
pub record AppendsBeginning (old new : Option (List ℕ)) (whole : List ℕ) : Type 0 where
  pub part : List ℕ
  pub rest : List ℕ
  pub is_beginning : whole ≡ part ++ rest
  pub is_proper : rest ≢ []
  pub appends : Appends old new part

-- a beginning of the bytes was written, or all
pub record AppendsAtMost (old new : Option (List ℕ)) (whole : List ℕ) : Type 0 where
  pub part : List ℕ
  pub rest : List ℕ
  pub is_beginning : whole ≡ part ++ rest
  pub written : Appends old new part

-- what a call that writes these bytes returned, and what the sink is after it: all of them were written; or a write failed, after a proper beginning of them
pub record Wrote {S : Type 0} (taken : S → Option (List ℕ)) (has_failed : S → Bool) (old new : S) (result : Result (Unit {0}) WriteFailed) (bytes : List ℕ) : Type 0 where
  pub written : OnOk result (Appends (taken old) (taken new) bytes)
  pub not_failed : OnOk result (has_failed new ≡ false)
  pub part : OnErr result (AppendsBeginning (taken old) (taken new) bytes)
  pub failed : OnErr result (has_failed new ≡ true)

-- The bytes that were read from a source, and the limit of 2^61 bytes: FIPS 180-4 defines digests of fewer than 2^64 bits.

-- these bytes, fewer than 2 ^ 61, were read
pub record HasRead (old new : Option (List ℕ)) (bytes : List ℕ) : Type 0 where
  pub gives : Consumes old new bytes
  pub short : length bytes < 2 ^ 61

-- these bytes, fewer than 2 ^ 61, were read, and none remain
pub record HasReadAll (old new : Option (List ℕ)) (bytes : List ℕ) : Type 0 where
  pub gives : Consumes old new bytes
  pub at_end : IsAtEnd new
  pub short : length bytes < 2 ^ 61

-- the most bytes of a message that a digest is defined of
abbrev pub max_len : ℕ
max_len = 2 ^ 61 - 1

-- these bytes, 2 ^ 61 or more, were read
pub record HasReadTooMuch (old new : Option (List ℕ)) (bytes : List ℕ) : Type 0 where
  pub too_long : 2 ^ 61 ≤ length bytes
  pub gives : Consumes old new bytes

-- these bytes were read, and this is their number
pub record HasReadCounted (old new : Option (List ℕ)) (bytes : List ℕ) (total : ℕ) : Type 0 where
  pub gives : HasRead old new bytes
  pub counted : length bytes ≡ total

-- no chunk was read after these bytes: the read failed, or what it put into the buffer makes them too many
abbrev pub ChunkFails : PipeError → Option (List ℕ) → Option (List ℕ) → List ℕ → List ℕ → Type 0
ChunkFails Input old new bytes buf = HasRead old new bytes
ChunkFails Output old new bytes buf = ⊥
ChunkFails TooMuch old new bytes buf = (count : ℕ) × (count ≤ length buf) × HasReadTooMuch old new (bytes ++ take count buf)

-- the bytes are those of the content from a position on
pub record IsReadAt (content : List ℕ) (at : ℕ) (bytes : List ℕ) : Type 0 where
  pub within : at + length bytes ≤ length content
  pub same : bytes ≡ slice_range content at (at + length bytes)

-- The lines of a text.

-- the byte that ends a line
abbrev pub is_line_feed : ℕ → Bool
is_line_feed b = b == 10

-- the parts, the last only if it is not empty
abbrev pub without_empty_last : List (List ℕ) → List (List ℕ)
without_empty_last [] = []
without_empty_last (part ∷ []) = if length part == 0 then [] else part ∷ []
without_empty_last (part ∷ (next ∷ parts)) = part ∷ without_empty_last (next ∷ parts)

-- the lines of a text without their line feeds, which the last may lack
unfoldable pub lines_of : List ℕ → List (List ℕ)
lines_of text = without_empty_last (slice_split (λ byte. byte == 10) text)

-- The lines of ids.

-- an id's line: its spelling, and a line feed
abbrev pub line_of : (ℕ → ℕ) → List ℕ → List ℕ
line_of letter id = spelling letter id ++ 10 ∷ []

-- the lines of ids, one after another
abbrev pub printed : (ℕ → ℕ) → List (List ℕ) → List ℕ
printed letter ids = flat_map (line_of letter) ids

-- What hashing and sealing read and write until they end or stop.

-- the line of a message's digest: its lowercase hex digits, and a line feed
abbrev pub digest_line : Kind → List ℕ → List ℕ
digest_line kind message = line_of hex_letter (id_digits (digest kind message))

-- hashing stops with this error: what was read, and what the sink took of the line
abbrev pub HashingFails : PipeError → Kind → Option (List ℕ) → Option (List ℕ) → Option (List ℕ) → Option (List ℕ) → Type 0
HashingFails Input kind source source' sink sink' = (message : List ℕ) × HasRead source source' message
HashingFails Output kind source source' sink sink' = (message : List ℕ) × HasReadAll source source' message × AppendsBeginning sink sink' (digest_line kind message)
HashingFails TooMuch kind source source' sink sink' = (message : List ℕ) × HasReadTooMuch source source' message

-- sealing stops with this error: what was read, and what the sink took of the sealed message
abbrev pub SealingFails : PipeError → Kind → Option (List ℕ) → Option (List ℕ) → Option (List ℕ) → Option (List ℕ) → Type 0
SealingFails Input kind source source' sink sink' = (message : List ℕ) × HasRead source source' message × Appends sink sink' message
SealingFails Output kind source source' sink sink' = (message : List ℕ) × HasRead source source' message × AppendsBeginning sink sink' (sealed kind message)
SealingFails TooMuch kind source source' sink sink' = (message : List ℕ) × HasReadTooMuch source source' message × AppendsBeginning sink sink' message

-- Which bytes are sealed, and how bytes end.

-- the last bytes are as many as a digest has, and are given as an id; or they are fewer
abbrev pub IsLast : Kind → List ℕ → Option ObjectId → Type 0
IsLast kind last (Some id) = (length last ≡ byte_len_of kind) × (id_digits id ≡ digits_of last)
IsLast kind last None = length last < byte_len_of kind

-- how bytes end whose last are `last`, if the digest of those before them is `id`
abbrev pub IsEnding : Kind → ObjectId → List ℕ → Ending → Type 0
IsEnding kind id last (Sealed found) = (found ≡ id) × (id_bytes id ≡ last)
IsEnding kind id last (Unsealed other found) = (other ≡ id) × (id_bytes id ≢ last) × IsLast kind last found

-- the bytes do not end in the digest of those before it, but in other bytes, or are fewer than a digest has
pub record IsUnsealed (kind : Kind) (bytes : List ℕ) (id : ObjectId) (found : Option ObjectId) : Type 0 where
  pub message : List ℕ
  pub last : List ℕ
  pub parts : bytes ≡ message ++ last
  -- the last bytes are fewer only if they are all
  pub all : length last < byte_len_of kind → message ≡ []
  pub not_sealed : ¬ EndsInDigest kind bytes
  pub digest_is : id ≡ digest kind message
  pub last_is : IsLast kind last found

-- how the bytes end
abbrev pub HasEnding : Kind → List ℕ → Ending → Type 0
HasEnding kind bytes (Sealed id) = (message : List ℕ) × (bytes ≡ sealed kind message) × (id ≡ digest kind message)
HasEnding kind bytes (Unsealed id found) = IsUnsealed kind bytes id found

-- how the bytes end, if they may end with a digest of either kind: with that of the first kind, or else with that of the second; with neither, as for the first
abbrev pub HasEndingOfEither : Kind → Kind → List ℕ → Ending → Type 0
HasEndingOfEither first second bytes (Sealed id) = HasEnding first bytes (Sealed id) ⊎ ((¬ EndsInDigest first bytes) × HasEnding second bytes (Sealed id))
HasEndingOfEither first second bytes (Unsealed id found) = HasEnding first bytes (Unsealed id found) × (¬ EndsInDigest second bytes)

-- the same, if there is a second kind
abbrev pub HasEndingOf : Kind → Option Kind → List ℕ → Ending → Type 0
HasEndingOf first None bytes ending = HasEnding first bytes ending
HasEndingOf first (Some second) bytes ending = HasEndingOfEither first second bytes ending

-- the hasher of that kind was fed the message, if there is one
abbrev pub AreFed : Option Kind → Option Hasher → List ℕ → Type 0
AreFed None None message = Unit {0}
AreFed None (Some hasher) message = ⊥
AreFed (Some kind) None message = ⊥
AreFed (Some kind) (Some hasher) message = (hasher_kind hasher ≡ kind) × WasFed hasher message

-- the last bytes are fewer than these only if no message is before them
abbrev pub AreAllBelow : ℕ → List ℕ → List ℕ → Type 0
AreAllBelow least message last = length last < least → message ≡ []
