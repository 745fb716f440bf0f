-- What a hasher of C stands for, and what the functions on hashers return and leave.
use Rattle.std.specs.Prelude.{[], ℕ, ◌++◌, ◌==◌, ◌∷◌, ◌≡◌, List, None, Option, Some, codes, decimal, if◌then◌else◌, length, take}
use Rattle.sha1.specs.Sha1.{Holds}
use Rattle.sha2.specs.Hashers.{Holds256}
use Rattle.sha1.specs.declared.Sha1 as sha1
use Rattle.sha2.specs.declared.Sha256 as sha256
use Rattle.id_lookup.specs.Words.{Kind, Sha1, Sha256, digest, number_of, whole_of}
use Rattle.gix_hash_c.specs.Codes.{BAD_KIND, BAD_TYPE, OK}
use Rattle.gix_hash_c.specs.Face.{HoldsId}
use Rattle.gix_hash_c.specs.declared.hashers.Hasher.{Hasher}
use Rattle.gix_hash_c.specs.declared.ids.Id.{Id}
use Rattle.gix_hash_c.specs.declared.states.Sha1Fields.{Sha1Fields}
use Rattle.gix_hash_c.specs.declared.states.Sha256Fields.{Sha256Fields}

-- The states of the hash functions, by their fields.

-- the state of SHA-1 with these fields
abbrev pub sha1_of : Sha1Fields → sha1.Sha1
sha1_of fields = record { h = fields.h; buffer = fields.buffer; total = fields.total }

-- the state of SHA-256 with these fields
abbrev pub sha256_of : Sha256Fields → sha256.Sha256
sha256_of fields = record { core = record { h = fields.core.h; buffer = fields.core.buffer; total = fields.core.total } }

-- the state of SHA-1 in a hasher
abbrev pub sha1_in : Hasher → sha1.Sha1
sha1_in hasher = record { h = take 5 hasher.words; buffer = hasher.block; total = hasher.count }

-- the state of SHA-256 in a hasher
abbrev pub sha256_in : Hasher → sha256.Sha256
sha256_in hasher = record { core = record { h = hasher.words; buffer = hasher.block; total = hasher.count } }

-- its state is that of the kind's hash function after the message
abbrev pub HoldsState : Kind → Hasher → List ℕ → Type 0
HoldsState Sha1 hasher message = Holds (sha1_in hasher) message
HoldsState Sha256 hasher message = Holds256 (sha256_in hasher) message

-- it is of the kind, and was fed the message. Bytes that no call wrote may be so for no message
pub record HoldsMessage (kind : Kind) (hasher : Hasher) (message : List ℕ) : Type 0 where
  pub kind_is : hasher.kind ≡ number_of kind
  pub state : HoldsState kind hasher message

-- what making a hasher returns, and leaves
abbrev pub NewAnswer : Option Kind → ℕ → Hasher → Hasher → Type 0
NewAnswer None code old new = (code ≡ BAD_KIND) × (new ≡ old)
NewAnswer (Some kind) code old new = (code ≡ OK) × HoldsMessage kind new []

-- what feeding one returns, and leaves
abbrev pub UpdateAnswer : Option Kind → List ℕ → ℕ → Hasher → Hasher → Type 0
UpdateAnswer None bytes code old new = (code ≡ BAD_KIND) × (new ≡ old)
UpdateAnswer (Some kind) bytes code old new =
    (code ≡ OK) × ((message : List ℕ) → HoldsMessage kind old message → HoldsMessage kind new (message ++ bytes))

-- what asking one for the digest returns, and leaves
abbrev pub FinishAnswer : Option Kind → Hasher → ℕ → Id → Id → Type 0
FinishAnswer None hasher code old new = (code ≡ BAD_KIND) × (new ≡ old)
FinishAnswer (Some kind) hasher code old new =
    (code ≡ OK) × ((message : List ℕ) → HoldsMessage kind hasher message → HoldsId (whole_of (digest kind message)) new)

-- The ids of Git's objects.

-- the name of a type of objects, by the number that it has in packs
abbrev pub type_name : ℕ → Option (List ℕ)
type_name n =
    if n == 1 then Some (codes "commit") else if n == 2 then Some (codes "tree")
    else if n == 3 then Some (codes "blob") else if n == 4 then Some (codes "tag") else None

-- the header of an object: its type's name, a space, the number of its bytes in decimal, and a zero
abbrev pub object_header : List ℕ → ℕ → List ℕ
object_header name len = name ++ 32 ∷ decimal len ++ 0 ∷ []

-- what the id of an object is the digest of: the header, and the bytes
abbrev pub object_bytes : List ℕ → List ℕ → List ℕ
object_bytes name bytes = object_header name (length bytes) ++ bytes

-- what is returned of an object's id, and left
abbrev pub ObjectAnswer : Option Kind → Option (List ℕ) → List ℕ → ℕ → Id → Id → Type 0
ObjectAnswer None name bytes code old new = (code ≡ BAD_KIND) × (new ≡ old)
ObjectAnswer (Some kind) None bytes code old new = (code ≡ BAD_TYPE) × (new ≡ old)
ObjectAnswer (Some kind) (Some name) bytes code old new =
    (code ≡ OK) × HoldsId (whole_of (digest kind (object_bytes name bytes))) new

-- what making the hasher of an object returns, and leaves: it was fed the header
abbrev pub ObjectHasherAnswer : Option Kind → Option (List ℕ) → ℕ → ℕ → Hasher → Hasher → Type 0
ObjectHasherAnswer None name len code old new = (code ≡ BAD_KIND) × (new ≡ old)
ObjectHasherAnswer (Some kind) None len code old new = (code ≡ BAD_TYPE) × (new ≡ old)
ObjectHasherAnswer (Some kind) (Some name) len code old new = (code ≡ OK) × HoldsMessage kind new (object_header name len)
