-- The first digits of bytes, copied into zeros.
use Rattle.id_digits.proofs.Std.{◌≡◌, ℕ, zero, suc, ◌-◌, ◌*◌, ◌/◌, ◌%◌, ◌<◌, ◌≤◌, List, [], ◌∷◌, ◌++◌, length, take, drop, get_or, replicate, slice_set, refl, sym, ap, arith, append_assoc, drop-replicate, set_at, length-take-le, length-append}
use Rattle.id_digits.specs.Digits.{digits_of, padded}
use Rattle.id_digits.proofs.ByteDigits.{length-digits_of, take-digits_of}

-- digits of bytes joined are the digits joined
pub digits_of-append : (xs ys : List ℕ) → digits_of (xs ++ ys) ≡ digits_of xs ++ digits_of ys
unfolding digits_of
digits_of-append [] ys = refl
digits_of-append (x ∷ xs) ys = ap (λ (ds : List ℕ). (x / 16) ∷ (x % 16) ∷ ds) (digits_of-append xs ys)

-- zero bytes have zero digits
pub digits_of-zeros : (n : ℕ) → digits_of (replicate n 0) ≡ replicate (2 * n) 0
unfolding digits_of
digits_of-zeros zero = refl
digits_of-zeros (suc n) =
    let two : 2 * suc n ≡ suc (suc (2 * n)) = omega arith in
    rw two (ap (λ (ds : List ℕ). 0 ∷ 0 ∷ ds) (digits_of-zeros n))

-- an odd number of first digits: those of whole bytes, and the high half of the next
pub take-digits_of-odd : (k : ℕ) (bytes : List ℕ) → k < length bytes
    → take (suc (2 * k)) (digits_of bytes) ≡ digits_of (take k bytes) ++ (get_or bytes k 0 / 16) ∷ []
unfolding digits_of
take-digits_of-odd k [] h = absurd (omega arith)
take-digits_of-odd zero (b ∷ bytes) h = refl
take-digits_of-odd (suc k) (b ∷ bytes) h =
    let two : 2 * suc k ≡ suc (suc (2 * k)) = omega arith in
    rw two (ap (λ (ds : List ℕ). (b / 16) ∷ (b % 16) ∷ ds) (take-digits_of-odd k bytes (omega arith)))

-- bytes before zeros have their digits, padded
pub padded-bytes : (k m : ℕ) (bytes zeros : List ℕ) → length bytes ≡ k → zeros ≡ replicate m 0
    → padded (2 * m) (digits_of bytes) ≡ digits_of (bytes ++ drop k zeros)
padded-bytes k m bytes zeros long are =
    let len = length-digits_of bytes in
    let count : 2 * m - length (digits_of bytes) ≡ 2 * (m - k) = omega arith in
    rw (count, are, drop-replicate {X = ℕ} k m 0, digits_of-append, digits_of-zeros (m - k)) refl

-- and so have bytes followed by a byte of one digit
pub padded-half : (k m d b : ℕ) (bytes zeros : List ℕ) → length bytes ≡ k → k < m → zeros ≡ replicate m 0 → digits_of (b ∷ []) ≡ d ∷ 0 ∷ []
    → padded (2 * m) (digits_of bytes ++ d ∷ []) ≡ digits_of (slice_set (bytes ++ drop k zeros) k b)
padded-half k m d b bytes zeros long room are half =
    let more : m - k ≡ suc (m - suc k) = omega arith in
    let set : slice_set (bytes ++ drop k zeros) k b ≡ bytes ++ (b ∷ [] ++ replicate (m - suc k) 0) =
    rw (are, drop-replicate {X = ℕ} k m 0, more) (set_at bytes 0 (replicate (m - suc k) 0) b k long) in
    let len = length-digits_of bytes in
    let count : 2 * m - length (digits_of bytes ++ d ∷ []) ≡ suc (2 * (m - suc k)) = omega (arith, length-append (digits_of bytes) (d ∷ [])) in
    rw (set, digits_of-append, digits_of-append (b ∷ []) (replicate (m - suc k) 0), half, digits_of-zeros (m - suc k), count)
    (append_assoc (digits_of bytes) (d ∷ []) (0 ∷ replicate (2 * (m - suc k)) 0))

-- an even number of first digits, copied into zeros
pub padded-even : (n k m : ℕ) (front zeros : List ℕ) → n ≡ 2 * k → k ≤ length front → zeros ≡ replicate m 0
    → digits_of (take k front ++ drop k zeros) ≡ padded (2 * m) (take n (digits_of front))
padded-even n k m front zeros two within are =
    rw (two, take-digits_of k front) (sym (padded-bytes k m (take k front) zeros (length-take-le k front within) are))

digits_of-half : (d : ℕ) → digits_of (d * 16 ∷ []) ≡ d ∷ 0 ∷ []
unfolding digits_of
digits_of-half d =
    let high : d * 16 / 16 ≡ d = omega arith in
    let low : d * 16 % 16 ≡ 0 = omega arith in
    rw (high, low) refl

-- and an odd number
pub padded-odd : (n k m : ℕ) (front zeros : List ℕ) → n ≡ suc (2 * k) → k < length front → length front ≤ m → zeros ≡ replicate m 0
    → digits_of (slice_set (take k front ++ drop k zeros) k (get_or front k 0 / 16 * 16)) ≡ padded (2 * m) (take n (digits_of front))
padded-odd n k m front zeros two within room are =
    rw (two, take-digits_of-odd k front within)
    (sym (padded-half k m _ _ (take k front) zeros (length-take-le k front (omega arith)) (omega arith) are (digits_of-half (get_or front k 0 / 16))))
