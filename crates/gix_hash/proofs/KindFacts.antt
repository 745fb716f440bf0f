-- The lengths of kinds, in digits and in bytes.
use Rattle.id_digits.proofs.Std.{◌≡◌, ℕ, ◌*◌, refl, arith, IsTrue, nat_tests}
use Rattle.gix_hash.specs.Kinds.{hex_len_of, byte_len_of, kind_of_byte_len}
use Rattle.id_digits.specs.Digits.{is_digest_len}
use Rattle.gix_hash.specs.declared.kind.Kind.{Kind}
use Rattle.gix_hash.specs.declared.kind.Kind.TheVariants.{Sha1, Sha256}

-- two digits a byte
pub hex_len_of-bytes : (kind : Kind) → hex_len_of kind ≡ 2 * byte_len_of kind
hex_len_of-bytes Sha1 = refl
hex_len_of-bytes Sha256 = refl

-- the kind of a digest has two digits for each of its bytes
pub hex_len_of-kind : (n : ℕ) → IsTrue (is_digest_len n) → hex_len_of (kind_of_byte_len n) ≡ 2 * n
hex_len_of-kind n h = grind (arith, nat_tests)

-- kinds with one number of digits are the same
pub same_kind : (a b : Kind) → hex_len_of a ≡ hex_len_of b → a ≡ b
same_kind a b h = grind arith
