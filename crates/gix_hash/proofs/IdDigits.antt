-- The digits that ids and digests have.
use Rattle.id_digits.proofs.Std.{◌≡◌, ◌↔◌, ℕ, zero, suc, ◌<◌, ◌*◌, ◌+◌, ◌++◌, ◌/◌, ◌%◌, ◌^◌, List, [], ◌∷◌, length, length-append, refl, ap, subst, mod-lt, arith, All, slice_index, All-nil, All-cons, All-head, All-tail, All-append}
use Rattle.std.specs.Int.{w32, byte_at, bytes_high_first, to_be_bytes}
use Rattle.sha1.specs.Sha1 as sha1
use Rattle.sha2.specs.Sha256 as sha256
use Rattle.id_digits.proofs.ByteDigits.{length-digits_of}
use Rattle.id_digits.proofs.Spellings.{All-digits_of}
use Rattle.id_digits.specs.Digits.{digits_of}
use Rattle.gix_hash.proofs.KindFacts.{hex_len_of-bytes}
use Rattle.gix_hash.specs.Kinds.{byte_len_of}
use Rattle.gix_hash.specs.Ids.{AreIdDigits, HasDigits, id_bytes, id_digits}
use Rattle.gix_hash.specs.declared.kind.Kind.{Kind}
use Rattle.gix_hash.specs.declared.kind.Kind.TheVariants.{Sha1, Sha256}
use Rattle.gix_hash.specs.declared.object_id.ObjectId.{ObjectId}
use Rattle.gix_hash.specs.declared.object_id.ObjectId.TheVariants as ids
use Rattle.gix_hash.specs.Hashing.{digest}

-- digits taken two by two are those of bytes
bytes_with : (n : ℕ) (digits : List ℕ) → length digits ≡ 2 * n → All (λ d. d < 16) digits
    → (bytes : List ℕ) × (length bytes ≡ n) × All (λ b. b < 256) bytes × (digits_of bytes ≡ digits)
unfolding digits_of
bytes_with zero [] len fits = ([], refl, All-nil (λ (b : ℕ). b < 256), refl)
bytes_with (suc n) [] len fits = absurd (omega arith)
bytes_with n (d ∷ []) len fits = absurd (omega arith)
bytes_with zero (d ∷ (e ∷ digits)) len fits = absurd (omega arith)
bytes_with (suc n) (d ∷ (e ∷ digits)) len fits =
    let after = All-tail (λ (x : ℕ). x < 16) d (e ∷ digits) fits in
    let first : d < 16 = All-head (λ (x : ℕ). x < 16) d (e ∷ digits) fits in
    let second : e < 16 = All-head (λ (x : ℕ). x < 16) e digits after in
    let rest = bytes_with n digits (omega arith) (All-tail (λ (x : ℕ). x < 16) e digits after) in
    let high : (16 * d + e) / 16 ≡ d = omega arith in
    let low : (16 * d + e) % 16 ≡ e = omega arith in
    ((16 * d + e) ∷ rest.0, ap suc rest.1, All-cons (λ (b : ℕ). b < 256) (16 * d + e) rest.0 (omega arith) rest.2, λ i. high i ∷ low i ∷ rest.3 i)

-- some id has digits of the right number and range
made : (kind : Kind) (digits : List ℕ) → AreIdDigits kind digits → (id : ObjectId) × HasDigits kind digits id
made Sha1 digits h = let b = bytes_with 20 digits (omega (arith, h.0)) h.1 in (ids.Sha1 b.0, (refl, b.1, b.2, b.3))
made Sha256 digits h = let b = bytes_with 32 digits (omega (arith, h.0)) h.1 in (ids.Sha256 b.0, (refl, b.1, b.2, b.3))

-- the digits of bytes, as many as the kind's digests have, are those of an id
digits_of-bytes : (kind : Kind) (bytes : List ℕ) → length bytes ≡ byte_len_of kind → All (λ b. b < 256) bytes → AreIdDigits kind (digits_of bytes)
digits_of-bytes kind bytes len fits = (omega (arith, length-digits_of bytes, hex_len_of-bytes kind), All-digits_of bytes fits)

-- the digits of ids are those that some id has
pub AreIdDigits-some : (kind : Kind) (digits : List ℕ) → AreIdDigits kind digits ↔ ((id : ObjectId) × HasDigits kind digits id)
AreIdDigits-some kind digits = (
  made kind digits,
  λ h. subst (AreIdDigits kind) h.1.3 (digits_of-bytes kind (id_bytes h.0) h.1.1 h.1.2),
)

-- a byte of a number
byte_at-below : (i n : ℕ) → byte_at i n < 256
byte_at-below zero n = omega arith
byte_at-below (suc i) n = mod-lt (n / 256 ^ suc i) (omega arith)

-- the first k bytes of it
All-bytes : (k n : ℕ) → All (λ b. b < 256) (bytes_high_first k n)
All-bytes zero n = All-nil (λ (b : ℕ). b < 256)
All-bytes (suc k) n = All-cons (λ (b : ℕ). b < 256) (byte_at k n) (bytes_high_first k n) (byte_at-below k n) (All-bytes k n)

-- the four bytes of a word
word_bytes : (n : ℕ) → (length (to_be_bytes w32 n) ≡ 4) × All (λ b. b < 256) (to_be_bytes w32 n)
word_bytes n = (refl, All-bytes 4 n)

-- the bytes of the first n words of a hash
bytes_of_words : (bytes : List ℕ → ℕ → List ℕ) (h : List ℕ) → bytes h 0 ≡ [] → ((n : ℕ) → bytes h (suc n) ≡ bytes h n ++ to_be_bytes w32 (slice_index h n))
    → (n : ℕ) → (length (bytes h n) ≡ 4 * n) × All (λ b. b < 256) (bytes h n)
bytes_of_words bytes h none more zero = rw none (refl, All-nil (λ (b : ℕ). b < 256))
bytes_of_words bytes h none more (suc n) =
    let before = bytes_of_words bytes h none more n in
    let last = word_bytes (slice_index h n) in
    let both = length-append (bytes h n) (to_be_bytes w32 (slice_index h n)) in
    rw (more n) (omega (arith, before.0, last.0, both), All-append (λ (b : ℕ). b < 256) _ _ before.1 last.1)

sha1_bytes : (h : List ℕ) (n : ℕ) → (length (sha1.digest_bytes h n) ≡ 4 * n) × All (λ b. b < 256) (sha1.digest_bytes h n)
unfolding sha1.digest_bytes
sha1_bytes h = bytes_of_words sha1.digest_bytes h refl (λ n. refl)

sha256_bytes : (h : List ℕ) (n : ℕ) → (length (sha256.digest_bytes h n) ≡ 4 * n) × All (λ b. b < 256) (sha256.digest_bytes h n)
unfolding sha256.digest_bytes
sha256_bytes h = bytes_of_words sha256.digest_bytes h refl (λ n. refl)

-- the digest of a message is one of the kind
pub digest-HasDigits : (kind : Kind) (message : List ℕ) → HasDigits kind (id_digits (digest kind message)) (digest kind message)
unfolding sha1.sha1 sha256.sha256
digest-HasDigits Sha1 message = let bytes = sha1_bytes _ 5 in (refl, bytes.0, bytes.1, refl)
digest-HasDigits Sha256 message = let bytes = sha256_bytes _ 8 in (refl, bytes.0, bytes.1, refl)

-- and so are its digits
pub digest-AreIdDigits : (kind : Kind) (message : List ℕ) → AreIdDigits kind (id_digits (digest kind message))
digest-AreIdDigits kind message = (AreIdDigits-some kind _).1 (digest kind message, digest-HasDigits kind message)
