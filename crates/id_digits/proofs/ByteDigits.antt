-- The digits of bytes: their number, the first and the last of them.
use Rattle.id_digits.proofs.Std.{◌≡◌, ℕ, zero, suc, ◌*◌, ◌/◌, ◌%◌, List, [], ◌∷◌, length, take, drop, get_or, refl, ap, arith}
use Rattle.id_digits.specs.Digits.{digits_of, first_byte_of}

-- bytes have two digits each
pub length-digits_of : (bytes : List ℕ) → length (digits_of bytes) ≡ 2 * length bytes
unfolding digits_of
length-digits_of [] = refl
length-digits_of (b ∷ bytes) = let more = length-digits_of bytes in omega (arith, more)

-- an even number of first digits are those of the first bytes
pub take-digits_of : (k : ℕ) (bytes : List ℕ) → take (2 * k) (digits_of bytes) ≡ digits_of (take k bytes)
unfolding digits_of
take-digits_of zero bytes = refl
take-digits_of (suc k) [] = let two : 2 * suc k ≡ suc (suc (2 * k)) = omega arith in rw two refl
take-digits_of (suc k) (b ∷ bytes) =
    let two : 2 * suc k ≡ suc (suc (2 * k)) = omega arith in
    rw two (ap (λ (ds : List ℕ). (b / 16) ∷ (b % 16) ∷ ds) (take-digits_of k bytes))

-- the digits after k bytes
pub drop-digits_of : (k : ℕ) (bytes : List ℕ) → drop (2 * k) (digits_of bytes) ≡ digits_of (drop k bytes)
unfolding digits_of
drop-digits_of zero bytes = refl
drop-digits_of (suc k) [] = let two : 2 * suc k ≡ suc (suc (2 * k)) = omega arith in rw two refl
drop-digits_of (suc k) (b ∷ bytes) = let two : 2 * suc k ≡ suc (suc (2 * k)) = omega arith in rw two (drop-digits_of k bytes)

-- a first byte is its two digits
pub first_byte-digits_of : (bytes : List ℕ) → get_or bytes 0 0 ≡ first_byte_of (digits_of bytes)
unfolding digits_of
first_byte-digits_of [] = refl
first_byte-digits_of (b ∷ bytes) = omega arith
