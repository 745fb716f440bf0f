-- Hashing: digests of messages, what a hasher was fed, and what is read, reported and asked for a digest.
use Rattle.std.specs.Prelude.{[], ℕ, ◌%◌, ◌*◌, ◌++◌, ◌+◌, ◌-◌, ◌/◌, ◌<◌, ◌∷◌, ◌≡◌, ◌≤◌, ◌⊎◌, Bool, Err, List, Ok, Option, Result, Some, false, length, map, min, replicate, suc, take, true, zero}
use Rattle.std.specs.Io.KnownBytes.{Appends, Consumes}
use Rattle.std.specs.List.{All, FoldsTo, flat_map, sum}
use Rattle.std.specs.declared.io.Error.{Error as IoError}
use Rattle.sha1.specs.Sha1.{Holds, sha1}
use Rattle.sha2.specs.Hashers.{Holds256}
use Rattle.sha2.specs.Sha256.{sha256}
use Rattle.gix_hash.specs.Ids.{id_bytes}
use Rattle.gix_hash.specs.declared.hashing.state.Hasher.{Hasher}
use Rattle.gix_hash.specs.declared.hashing.state.Hasher.TheVariants as hashers
use Rattle.gix_hash.specs.declared.io.error.Error.{Error}
use Rattle.gix_hash.specs.declared.io.error.Error.TheVariants as errors
use Rattle.gix_hash.specs.declared.io.write.Write.{Write}
use Rattle.gix_hash.specs.declared.kind.Kind.{Kind}
use Rattle.gix_hash.specs.declared.kind.Kind.TheVariants as kinds
use Rattle.gix_hash.specs.declared.object_id.ObjectId.{ObjectId}
use Rattle.gix_hash.specs.declared.object_id.ObjectId.TheVariants.{Sha1, Sha256}

-- Digests of messages, bytes that end in the digest of all before it, and what a hasher was fed.

-- the digest of a message of bytes
abbrev pub digest : Kind → List ℕ → ObjectId
digest kinds.Sha1 message = Sha1 (sha1 message)
digest kinds.Sha256 message = Sha256 (sha256 message)

-- a message followed by the bytes of its digest
abbrev pub sealed : Kind → List ℕ → List ℕ
sealed kind message = message ++ id_bytes (digest kind message)

-- the bytes are a message followed by its digest
abbrev pub EndsInDigest : Kind → List ℕ → Type 0
EndsInDigest kind bytes = (message : List ℕ) × (bytes ≡ sealed kind message)

-- the kind of digest that a hasher computes
abbrev pub hasher_kind : Hasher → Kind
hasher_kind (hashers.Sha1 h) = kinds.Sha1
hasher_kind (hashers.Sha256 h) = kinds.Sha256

-- the hasher was fed the message
abbrev pub WasFed : Hasher → List ℕ → Type 0
WasFed (hashers.Sha1 h) message = Holds h.state message
WasFed (hashers.Sha256 h) message = Holds256 h.state message

-- What the calls of a hashing writer do.

-- the inner writer accepted exactly these bytes, and the hasher was fed them
pub record WritesAndFeeds {T : Type 0} (contents : T → Option (List ℕ)) (old : Write T) (bytes : List ℕ) (new : Write T) : Type 0 where
  pub kind : hasher_kind new.hash ≡ hasher_kind old.hash
  pub fed : (message : List ℕ) → WasFed old.hash message → WasFed new.hash (message ++ bytes)
  pub gained : Appends (contents old.inner) (contents new.inner) bytes

-- a call of a hashing writer: a write of these bytes, with what it returned, or a flush
pub data WriterCall : Type 0 where
  Wrote : List ℕ → Result ℕ IoError → WriterCall
  Flushed : WriterCall

-- what a call accepted: the first w of the bytes, if it returned Ok(w)
abbrev pub accepted_by : WriterCall → List ℕ
accepted_by (Wrote bytes (Ok count)) = take count bytes
accepted_by (Wrote bytes (Err error)) = []
accepted_by Flushed = []

-- what calls accepted, one after another
abbrev pub accepted : List WriterCall → List ℕ
accepted calls = flat_map accepted_by calls

-- in the call the inner writer accepted these bytes, and the hasher was fed them
abbrev pub WriterStep : {T : Type 0} → (T → Option (List ℕ)) → Write T → WriterCall → Write T → Type 0
WriterStep contents old call new = WritesAndFeeds contents old (accepted_by call) new

-- What reading bytes for their digest reports, asks and reads, and why it stops.

-- a call of a `Progress`, with its argument
pub data ProgressCall : Type 0 where
  Init : Option ℕ → ProgressCall
  IncBy : ℕ → ProgressCall
  ShowThroughput : ProgressCall

-- starting from v, the calls made one after the other can lead to w, each step being one that `step` allows
unfoldable pub Reaches : {V C : Type 0} → (V → C → V → Type 0) → V → List C → V → Type 0
Reaches step v calls w = FoldsTo step v calls w

-- the last chunk, of the r bytes that full chunks leave, if any
unfoldable pub last_chunk : ℕ → List ℕ
last_chunk zero = []
last_chunk (suc r) = suc r ∷ []

-- the lengths of the chunks in which n bytes are read: full ones, and then what they leave
unfoldable pub chunks : ℕ → List ℕ
chunks n = replicate (n / 65535) 65535 ++ last_chunk (n % 65535)

-- the length of a chunk
abbrev pub IsChunkLen : ℕ → Type 0
IsChunkLen len = (0 < len) × (len ≤ 65535)

-- the numbers are chunks of n: their sum is n, all but the last are 65535, and each is 1 to 65535
pub record AreChunks (n : ℕ) (lens : List ℕ) : Type 0 where
  pub all : sum lens ≡ n
  pub full : All (λ len. len ≡ 65535) (take (length lens - 1) lens)
  pub sizes : All IsChunkLen lens

-- the calls of a progress until j chunks of n bytes were read
abbrev pub heard : ℕ → ℕ → List ProgressCall
heard n j = Init (Some n) ∷ map IncBy (take j (chunks n))

-- the calls of a progress for n bytes that were all read
abbrev pub heard_all : ℕ → List ProgressCall
heard_all n = heard n (length (chunks n)) ++ ShowThroughput ∷ []

-- what j calls of an interruption return if all return false
abbrev pub all_false : ℕ → List Bool
all_false j = replicate j false

-- exactly these bytes, `count` of them, were read
abbrev pub ReadsNext : Option (List ℕ) → Option (List ℕ) → ℕ → List ℕ → Type 0
ReadsNext old new count bytes = (length bytes ≡ count) × Consumes old new bytes

-- why reading n bytes stopped with an error, and which calls were made by then. Either j full chunks were read and the
-- reader failed in the next one; or the interruption returned true after chunk j + 1, and exactly the bytes until then
-- were read
abbrev pub StopsWith : Error → ℕ → (List ProgressCall → Type 0) → (List Bool → Type 0) → Option (List ℕ) → Option (List ℕ) → Type 0
StopsWith (errors.Io _) n hears answers old new =
    (j : ℕ) × (j < length (chunks n)) × hears (heard n j) × answers (all_false j)
    × ((between : Option (List ℕ)) × (bytes : List ℕ) × ReadsNext old between (65535 * j) bytes)
StopsWith (errors.Hasher _) n hears answers old new = ⊥
StopsWith errors.Interrupted n hears answers old new =
    (j : ℕ) × (j < length (chunks n)) × hears (heard n (j + 1)) × answers (all_false j ++ true ∷ [])
    × ((bytes : List ℕ) × ReadsNext old new (min n (65535 * (j + 1))) bytes)

-- why a file gave no digest: it could not be opened, and no call was made, or reading its n bytes stopped
abbrev pub FileStopsWith : Error → ℕ → (List ProgressCall → Type 0) → (List Bool → Type 0) → Type 0
FileStopsWith error n hears answers =
    ((cause : IoError) × (error ≡ errors.Io cause) × hears [] × answers [])
    ⊎ ((old : Option (List ℕ)) × (new : Option (List ℕ)) × StopsWith error n hears answers old new)
