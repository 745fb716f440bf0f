-- How a prefix is stored: the bytes of its digits with zeros after them, the number of digits, and their two words.
use Rattle.std.proofs.Common.{◌<◌, ◌≡◌, ℕ, ◌+◌, ◌-◌, ◌*◌, ◌≤◌, List, [], ◌∷◌, length, take, replicate, refl, sym, ap, ◌∙◌, arith, length-append, eqb-true, IsTrue, All, nat_eq}
use Rattle.std.specs.Hash as fed
use Rattle.std.specs.Cmp.Lexicographic.{pointwise, bytes_decides}
use Rattle.std.proofs.lemmas.Bool.{and_parts}
use Rattle.std.proofs.lemmas.List.{length-replicate, length-take-le}
use Rattle.id_digits.specs.Digits.{digits_of, padded, words_of}
use Rattle.gix_hash.specs.Kinds.{hex_len_of, number_of, kind_by_number}
use Rattle.gix_hash.specs.Ids.{id_kind, id_digits}
use Rattle.gix_hash.specs.Prefixes.{KindDigits, prefix_eq}
use Rattle.gix_hash.specs.declared.kind.Kind.{Kind}
use Rattle.gix_hash.specs.declared.kind.Kind.TheVariants as kinds
use Rattle.gix_hash.specs.declared.object_id.ObjectId.{ObjectId}
use Rattle.gix_hash.specs.declared.object_id.ObjectId.TheVariants.{Sha1, Sha256}
use Rattle.gix_hash.specs.declared.prefix.Prefix.TheInside.{Inside}

-- the bytes of digits, two a byte; an odd number of digits is followed by a zero
unfoldable pub packed_digits : List ℕ → List ℕ
packed_digits [] = []
packed_digits (d ∷ []) = (16 * d) ∷ []
packed_digits (d ∷ (e ∷ digits)) = (16 * d + e) ∷ packed_digits digits

-- the id of a kind with these bytes
abbrev pub id_of : Kind → List ℕ → ObjectId
id_of kinds.Sha1 bytes = Sha1 bytes
id_of kinds.Sha256 bytes = Sha256 bytes

-- the bytes of a prefix, of the kind's length
abbrev pub padded_id : Kind → List ℕ → ObjectId
padded_id kind digits = id_of kind (packed_digits (padded (hex_len_of kind) digits))

-- the digits of a prefix
abbrev pub shown : Inside → List ℕ
shown p = take p.hex_len (id_digits p.bytes)

-- bytes and words hold the digits that are shown, with zeros after them
pub record IsPacked (p : Inside) : Type 0 where
  pub within : p.hex_len ≤ hex_len_of (id_kind p.bytes)
  pub zeros : id_digits p.bytes ≡ padded (hex_len_of (id_kind p.bytes)) (shown p)
  pub digits_in_range : All (λ d. d < 16) (id_digits p.bytes)
  pub words : p.words ≡ words_of (shown p)

-- the digits of bytes give the bytes back
pub packed_digits-digits_of : (bytes : List ℕ) → packed_digits (digits_of bytes) ≡ bytes
unfolding packed_digits digits_of
packed_digits-digits_of [] = refl
packed_digits-digits_of (b ∷ bytes) = rw (packed_digits-digits_of bytes) (ap (λ (x : ℕ). x ∷ bytes) (omega arith))

-- the kind and the digits of an id give the id back
pub id_of-parts : (id : ObjectId) → id_of (id_kind id) (packed_digits (id_digits id)) ≡ id
id_of-parts (Sha1 bytes) = ap Sha1 (packed_digits-digits_of bytes)
id_of-parts (Sha256 bytes) = ap Sha256 (packed_digits-digits_of bytes)

-- the kind and the digits that a prefix shows give its bytes back
given_back : (p : Inside) → IsPacked p → padded_id (id_kind p.bytes) (shown p) ≡ p.bytes
given_back p h = ap (λ (ds : List ℕ). id_of (id_kind p.bytes) (packed_digits ds)) (sym h.zeros) ∙ id_of-parts p.bytes

-- padding reaches at least the length asked for
length-padded : (n : ℕ) (digits : List ℕ) → n ≤ length (padded n digits)
length-padded n digits =
    omega (arith, length-append digits (replicate (n - length digits) 0), length-replicate {A = ℕ} (n - length digits) 0)

-- the digits that a prefix shows are as many as it says
pub length-shown : (p : Inside) → IsPacked p → length (shown p) ≡ p.hex_len
length-shown p h =
    length-take-le p.hex_len (id_digits p.bytes)
    (omega (arith, h.within, length-padded (hex_len_of (id_kind p.bytes)) (shown p), ap length h.zeros))

-- how a prefix of a kind and digits is stored
abbrev pub stored : KindDigits → Inside
stored prefix = record {
  bytes = padded_id prefix.kind prefix.digits;
  hex_len = length prefix.digits;
  words = words_of prefix.digits;
}

-- the prefix that contracts see
abbrev pub viewed : Inside → KindDigits
viewed p = record { kind = id_kind p.bytes; digits = shown p }

-- what contracts see of a prefix determines how it is stored
pub stored-viewed : (p : Inside) → IsPacked p → stored (viewed p) ≡ p
stored-viewed p h = λ i. record { bytes = given_back p h i; hex_len = length-shown p h i; words = sym h.words i }

-- what a prefix feeds to a hash: its bytes in one write, and then the number of digits
abbrev pub prefix_hash_input : KindDigits → List (List ℕ)
prefix_hash_input prefix = packed_digits (padded (hex_len_of prefix.kind) prefix.digits) ∷ fed.usize (length prefix.digits)

-- equal prefixes feed the same
pub same_hash_input : (a b : KindDigits)
    → IsTrue (prefix_eq a b)
    → prefix_hash_input a ≡ prefix_hash_input b
same_hash_input a b h =
    let parts = and_parts (nat_eq (number_of a.kind) (number_of b.kind)) (pointwise nat_eq a.digits b.digits) h in
    let kind = kind_by_number a.kind b.kind (eqb-true (number_of a.kind) (number_of b.kind) parts.0) in
    let digits = (bytes_decides a.digits b.digits).0 parts.1 in
    λ i. packed_digits (padded (hex_len_of (kind i)) (digits i)) ∷ fed.usize (length (digits i))
