-- The kinds of digest, with their numbers and lengths.
use Rattle.std.proofs.Common.{[], ℕ, ◌==◌, ◌∷◌, ◌≡◌, ◌≢◌, Contains, List, None, Option, Some, codes, false, if◌then◌else◌, length, nat_le, arith}
use Rattle.id_digits.specs.Digits.{is_digest_len}
use Rattle.gix_hash.specs.declared.error.Error.{Error}
use Rattle.gix_hash.specs.declared.error.Error.TheVariants.{InvalidByteSliceLength}
use Rattle.gix_hash.specs.declared.kind.Kind.{Kind}
use Rattle.gix_hash.specs.declared.kind.Kind.TheVariants.{Sha1, Sha256}

-- the number of a kind, by which kinds are ordered
abbrev pub number_of : Kind → ℕ
number_of Sha1 = 1
number_of Sha256 = 2

-- kinds with one number are the same
pub kind_by_number : (a b : Kind) → number_of a ≡ number_of b → a ≡ b
kind_by_number a b h = grind arith

-- how many digits an id of the kind has
abbrev pub hex_len_of : Kind → ℕ
hex_len_of Sha1 = 40
hex_len_of Sha256 = 64

-- how many bytes a digest of the kind has
abbrev pub byte_len_of : Kind → ℕ
byte_len_of Sha1 = 20
byte_len_of Sha256 = 32

-- the kind with the shortest ids of at least n digits
abbrev pub kind_of_hex_len : ℕ → Option Kind
kind_of_hex_len n = if nat_le n 40 then Some Sha1 else if nat_le n 64 then Some Sha256 else None

-- the kind whose ids have exactly n digits
abbrev pub kind_of_full_len : ℕ → Option Kind
kind_of_full_len n = if n == 40 then Some Sha1 else if n == 64 then Some Sha256 else None

-- the ids of some kind have exactly n digits
abbrev pub IsFullLen : ℕ → Type 0
IsFullLen n = (kind : Kind) × (n ≡ hex_len_of kind)

-- the kind of a digest by its length in bytes, which is 20 or 32
abbrev pub kind_of_byte_len : ℕ → Kind
kind_of_byte_len n = if n == 20 then Sha1 else Sha256

-- the name that a kind prints
abbrev pub name_of : Kind → List ℕ
name_of Sha1 = codes "sha1"
name_of Sha256 = codes "sha256"

-- the names that are read
abbrev pub names_of : Kind → List (List ℕ)
names_of Sha1 = codes "sha1" ∷ codes "SHA1" ∷ codes "SHA-1" ∷ []
names_of Sha256 = codes "sha256" ∷ codes "SHA256" ∷ codes "SHA-256" ∷ []

-- the text is a name of the kind
abbrev pub IsNameOf : List ℕ → Kind → Type 0
IsNameOf name kind = Contains (names_of kind) name

-- the text is no kind's name
abbrev pub IsNoName : List ℕ → Type 0
IsNoName name = (kind : Kind) → ¬ IsNameOf name kind

-- the number is no kind's
abbrev pub IsNoNumber : ℕ → Type 0
IsNoNumber number = (kind : Kind) → number_of kind ≢ number

-- no kind has digests of this length, and the error contains the length
abbrev pub IsLengthRefusal : List ℕ → Error → Type 0
IsLengthRefusal bytes error = (is_digest_len (length bytes) ≡ false) × (error ≡ InvalidByteSliceLength (length bytes))
