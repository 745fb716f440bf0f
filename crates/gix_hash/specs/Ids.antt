-- What contracts see of ids: owned, borrowed and cut, and the ids that Git knows.
use Rattle.std.specs.Cmp.Lexicographic.{pointwise, slice_cmp}
use Rattle.std.specs.Hash as fed
use Rattle.std.specs.Ordering.{eq_of_both, nat_cmp, on, then_cmp}
use Rattle.std.specs.declared.cmp.Ordering.{Ordering}
use Rattle.std.proofs.Common.{[], ℕ, ◌++◌, ◌<◌, ◌∷◌, ◌≡◌, Bool, IsTrue, List, codes, length, map, nat_eq, replicate, take, unwrap_or, All, ap}
use Rattle.std.proofs.lemmas.Bool.{and_parts}
use Rattle.id_digits.proofs.DigitOrder.{same_bytes}
use Rattle.id_digits.specs.Digits.{digit_in, digits_of, hex_letter}
use Rattle.gix_hash.specs.Kinds.{byte_len_of, hex_len_of, kind_of_byte_len, number_of}
use Rattle.gix_hash.specs.declared.borrowed.oid.{oid}
use Rattle.gix_hash.specs.declared.display.CutId.{CutId}
use Rattle.gix_hash.specs.declared.kind.Kind.{Kind}
use Rattle.gix_hash.specs.declared.kind.Kind.TheVariants as kinds
use Rattle.gix_hash.specs.declared.object_id.ObjectId.{ObjectId}
use Rattle.gix_hash.specs.declared.object_id.ObjectId.TheVariants.{Sha1, Sha256}

-- What contracts see of an owned id.

-- the bytes of its digest
abbrev pub id_bytes : ObjectId → List ℕ
id_bytes (Sha1 bytes) = bytes
id_bytes (Sha256 bytes) = bytes

-- its digits, two a byte
abbrev pub id_digits : ObjectId → List ℕ
id_digits id = digits_of (id_bytes id)

-- its kind
abbrev pub id_kind : ObjectId → Kind
id_kind (Sha1 bytes) = kinds.Sha1
id_kind (Sha256 bytes) = kinds.Sha256

-- its kind's number, by which owned ids are ordered first
abbrev pub id_kind_number : ObjectId → ℕ
id_kind_number id = number_of (id_kind id)

-- `==` of owned ids, by which a hash map or a hash set finds its keys: their kinds and their digits are equal
abbrev pub id_eq : ObjectId → ObjectId → Bool
id_eq = eq_of_both (on id_kind_number nat_eq) (on id_digits (pointwise nat_eq))

-- the order of owned ids, by which a tree map or a tree set finds its keys: by kind, and then by digits
abbrev pub id_cmp : ObjectId → ObjectId → Ordering
id_cmp = then_cmp (on id_kind_number nat_cmp) (on id_digits (slice_cmp nat_cmp))

-- what an owned id feeds to a hash: the bytes of its digest in one write
abbrev pub id_hash_input : ObjectId → List (List ℕ)
id_hash_input id = id_bytes id ∷ []

-- equal ids feed the same bytes to a hash
pub same_id_input : (a b : ObjectId) → IsTrue (id_eq a b) → id_hash_input a ≡ id_hash_input b
same_id_input a b h =
    let parts = and_parts (nat_eq (id_kind_number a) (id_kind_number b)) (pointwise nat_eq (id_digits a) (id_digits b)) h in
    ap (λ (bytes : List ℕ). bytes ∷ []) (same_bytes (id_bytes a) (id_bytes b) parts.1)

-- What contracts see of a borrowed id.

-- the bytes of its digest
abbrev pub oid_bytes : oid → List ℕ
oid_bytes id = id.bytes.now

-- its digits, two a byte
abbrev pub oid_digits : oid → List ℕ
oid_digits id = digits_of id.bytes.now

-- its kind, by the digest's length
abbrev pub oid_kind : oid → Kind
oid_kind id = kind_of_byte_len (length id.bytes.now)

-- `==` of borrowed ids: their digits are equal
abbrev pub oid_eq : oid → oid → Bool
oid_eq = on oid_digits (pointwise nat_eq)

-- the order of borrowed ids: dictionary order of their digits, whatever the kinds
abbrev pub oid_cmp : oid → oid → Ordering
oid_cmp = on oid_digits (slice_cmp nat_cmp)

-- what a borrowed id feeds to a hash: the bytes of its digest in one write
abbrev pub oid_hash_input : oid → List (List ℕ)
oid_hash_input id = oid_bytes id ∷ []

-- equal ids feed the same bytes to a hash
pub same_oid_input : (a b : oid) → IsTrue (oid_eq a b) → oid_hash_input a ≡ oid_hash_input b
same_oid_input a b h = ap (λ (bytes : List ℕ). bytes ∷ []) (same_bytes (oid_bytes a) (oid_bytes b) h)

-- The lists of digits that ids have.

-- the digits of some id of the kind: as many as its ids have, each below 16
abbrev pub AreIdDigits : Kind → List ℕ → Type 0
AreIdDigits kind digits = (length digits ≡ hex_len_of kind) × All (λ d. d < 16) digits

-- an id of the kind, whose digest has as many bytes as the kind's, each below 256, has these digits
abbrev pub HasDigits : Kind → List ℕ → ObjectId → Type 0
HasDigits kind digits id =
    (id_kind id ≡ kind) × (length (id_bytes id) ≡ byte_len_of kind) × All (λ b. b < 256) (id_bytes id) × (id_digits id ≡ digits)

-- The ids that Git names without an object at hand.

-- the digits of a hex text
abbrev pub hex_values : List ℕ → List ℕ
hex_values text = map (λ c. unwrap_or (digit_in hex_letter c) 0) text

-- the id whose digits are all zero
abbrev pub null_digits : Kind → List ℕ
null_digits kind = replicate (hex_len_of kind) 0

-- the id of the empty blob
abbrev pub empty_blob_digits : Kind → List ℕ
empty_blob_digits kinds.Sha1 = hex_values (codes "e69de29bb2d1d6434b8b29ae775ad8c2e48c5391")
empty_blob_digits kinds.Sha256 = hex_values (codes "473a0f4c3be8a93681a267e3b1e9a7dcda1185436fe141f7749120a303721813")

-- the id of the empty tree
abbrev pub empty_tree_digits : Kind → List ℕ
empty_tree_digits kinds.Sha1 = hex_values (codes "4b825dc642cb6eb9a060e54bf8d69288fbee4904")
empty_tree_digits kinds.Sha256 = hex_values (codes "6ef19b41225c5369f1c104d45d8d85efa9b057b53b14b4b9b939dd74decc5321")

-- What contracts see of an id that is printed cut, in either alphabet.

-- an id, cut at a number of digits
abbrev pub cut_of : oid → ℕ → CutId
cut_of id hex_len = record { inner = id; hex_len = hex_len }

-- the digits that are printed: all if more were asked for
abbrev pub shown_digits : CutId → List ℕ
shown_digits cut = take cut.hex_len (oid_digits cut.inner)

-- all digits of the id that is cut
abbrev pub whole_digits : CutId → List ℕ
whole_digits cut = oid_digits cut.inner

-- its kind
abbrev pub cut_kind : CutId → Kind
cut_kind cut = oid_kind cut.inner

-- the number of digits asked for
abbrev pub asked_len : CutId → ℕ
asked_len cut = cut.hex_len

-- `==` of displays: their ids are equal, and the numbers of digits asked for
abbrev pub cut_eq : CutId → CutId → Bool
cut_eq = eq_of_both (on (λ cut. cut.inner) oid_eq) (on (λ cut. cut.hex_len) nat_eq)

-- the order of displays: by id, and then by the number of digits asked for
abbrev pub cut_cmp : CutId → CutId → Ordering
cut_cmp = then_cmp (on (λ cut. cut.inner) oid_cmp) (on (λ cut. cut.hex_len) nat_cmp)

-- what a display feeds to a hash: what its id feeds, and then the number of digits asked for
abbrev pub cut_hash_input : CutId → List (List ℕ)
cut_hash_input cut = oid_hash_input cut.inner ++ fed.usize cut.hex_len
