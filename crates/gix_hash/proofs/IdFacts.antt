-- What the bytes of an id say of its digits.
use Rattle.id_digits.proofs.Std.{◌≡◌, ℕ, ◌<◌, List, length, sym, ap, ◌∙◌, subst, arith, All}
use Rattle.gix_hash.specs.Kinds.{hex_len_of, byte_len_of}
use Rattle.gix_hash.specs.Ids.{id_bytes, id_digits, id_kind, oid_bytes, oid_digits, oid_kind}
use Rattle.gix_hash.specs.declared.borrowed.oid.{oid}
use Rattle.gix_hash.specs.declared.object_id.ObjectId.{ObjectId}
use Rattle.gix_hash.proofs.KindFacts.{hex_len_of-bytes, hex_len_of-kind}
use Rattle.id_digits.proofs.ByteDigits.{length-digits_of}
use Rattle.id_digits.proofs.Spellings.{All-digits_of}

-- how many they are
pub length-known : (id : ObjectId) (bytes : List ℕ) → bytes ≡ id_bytes id → length bytes ≡ byte_len_of (id_kind id)
    → length (id_digits id) ≡ hex_len_of (id_kind id)
length-known id bytes are len =
    omega (arith, length-digits_of (id_bytes id), ap length are, hex_len_of-bytes (id_kind id))

-- and their range
pub digits_in_range-known : (id : ObjectId) (bytes : List ℕ) → bytes ≡ id_bytes id → All (λ b. b < 256) bytes → All (λ d. d < 16) (id_digits id)
digits_in_range-known id bytes are fits = All-digits_of (id_bytes id) (subst (All (λ b. b < 256)) are fits)

-- what the bytes that an id lends say of its digits
pub ruleset digits_of_id = (length-known, digits_in_range-known)

-- a view has as many digits as its kind
pub length-oid : (id : oid) → length (oid_digits id) ≡ hex_len_of (oid_kind id)
length-oid id = length-digits_of (oid_bytes id) ∙ sym (hex_len_of-kind (length (oid_bytes id)) id.length_known)

-- and each is below sixteen
pub digits_in_range-oid : (id : oid) → All (λ d. d < 16) (oid_digits id)
digits_in_range-oid id = All-digits_of (oid_bytes id) id.bytes_in_range

-- what a view says of its digits
pub ruleset digits_of_view = (length-oid, digits_in_range-oid)
