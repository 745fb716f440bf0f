-- Spellings of ids.
use Rattle.id_digits.proofs.Std.{◌++◌, ◌≡◌, ◌<◌, ℕ, ◌*◌, ◌/◌, ◌%◌, List, [], ◌∷◌, length, take, drop, min, ◌≤◌, refl, subst, sym, ap, ◌∙◌, arith, All, All-head, All-tail, IsAscii, take_at, drop_at, take-take, take_min, length-take-le}
use Rattle.hex.specs.Hex.{encode_lower, encode_with}
use Rattle.id_digits.specs.Digits.{digits_of, spelling, hex_letter}
use Rattle.id_digits.proofs.ByteDigits.{length-digits_of, take-digits_of}
use Rattle.id_digits.proofs.Spellings.{IsAscii-hex_digits, length-spelling, take-spelling}
use Rattle.gix_hash.proofs.SpellingLaws.{hex_letter-table}

-- what the crate `hex` encodes is the spelling of the digits
pub spelled_by_hex : (bytes : List ℕ) → All (λ b. b < 256) bytes → encode_lower bytes ≡ spelling hex_letter (digits_of bytes)
unfolding encode_with digits_of
spelled_by_hex [] fits = refl
spelled_by_hex (b ∷ bytes) fits =
    let first = All-head (λ (x : ℕ). x < 256) b bytes fits in
    let rest = spelled_by_hex bytes (All-tail (λ (x : ℕ). x < 256) b bytes fits) in
    rw (hex_letter-table (b / 16) (omega arith), hex_letter-table (b % 16) (omega arith), rest) refl

-- a spelling in front of a buffer is ASCII
pub IsAscii-front : (digits rest buffer : List ℕ) (n : ℕ) → buffer ≡ spelling hex_letter digits ++ rest → length digits ≡ n → All (λ d. d < 16) digits
    → IsAscii (take n buffer)
IsAscii-front digits rest buffer n is len fits =
    subst IsAscii (sym (ap (take n) is ∙ take_at _ _ n (length-spelling hex_letter digits ∙ len))) (IsAscii-hex_digits digits fits)

-- the letters of as many first bytes as are needed, cut at a number of digits or at the last
pub take-spelled : (n cut whole : ℕ) (bytes rest : List ℕ) → cut ≡ min n (2 * length bytes) → cut ≤ 2 * whole → whole ≤ length bytes
    → take cut (spelling hex_letter (digits_of (take whole bytes)) ++ rest) ≡ spelling hex_letter (take n (digits_of bytes))
take-spelled n cut whole bytes rest is covers within =
    let front = digits_of (take whole bytes) in
    let count : length front ≡ 2 * whole = length-digits_of (take whole bytes) ∙ ap (λ k. 2 * k) (length-take-le whole bytes within) in
    let some : cut ≡ min cut (length front) = omega (arith, count) in
    let most : cut ≡ min n (length (digits_of bytes)) = is ∙ ap (min n) (sym (length-digits_of bytes)) in
    ap (λ k. take k (spelling hex_letter front ++ rest)) some ∙ take-spelling hex_letter cut front rest
    ∙ ap (spelling hex_letter) (ap (take cut) (sym (take-digits_of whole bytes)) ∙ take-take cut (2 * whole) (digits_of bytes) covers
    ∙ ap (λ k. take k (digits_of bytes)) most ∙ take_min n (digits_of bytes))

-- the letters in front of a buffer, and what is after them
pub cut_and_rest : (ds bytes buffer : List ℕ) → ds ≡ digits_of bytes
    → (take (2 * length bytes) (spelling hex_letter ds ++ drop (2 * length bytes) buffer) ≡ spelling hex_letter ds)
    × (drop (2 * length bytes) (spelling hex_letter ds ++ drop (2 * length bytes) buffer) ≡ drop (2 * length bytes) buffer)
cut_and_rest ds bytes buffer are =
    let len = length-spelling hex_letter ds ∙ ap length are ∙ length-digits_of bytes in
    (take_at _ _ (2 * length bytes) len, drop_at _ _ (2 * length bytes) len)
