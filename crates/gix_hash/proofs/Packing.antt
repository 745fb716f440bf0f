-- The first digits of bytes, copied into zeros.
use Rattle.id_digits.proofs.Std.{◌≡◌, ℕ, ◌-◌, ◌*◌, ◌≤◌, List, length, take, drop, replicate, slice_range, arith, take-take, take_at, length-take-le}
use Rattle.id_digits.specs.Digits.{digits_of, padded}
use Rattle.id_digits.proofs.ByteDigits.{length-digits_of, take-digits_of, drop-digits_of}

-- as many first digits as were asked for
pub length-first : (n : ℕ) (front : List ℕ) → n ≤ 2 * length front → length (take n (digits_of front)) ≡ n
length-first n front within = length-take-le n (digits_of front) (omega (arith, length-digits_of front))

-- the first digits are those of the first bytes
pub take-digits_of-take : (n k : ℕ) (bytes : List ℕ) → n ≤ 2 * k → take n (digits_of (take k bytes)) ≡ take n (digits_of bytes)
take-digits_of-take n k bytes within = rw (← take-digits_of k bytes) (take-take n (2 * k) (digits_of bytes) within)

-- the digits are before the zeros
pub take-padded : (n room : ℕ) (digits : List ℕ) → length digits ≡ n → take n (padded room digits) ≡ digits
take-padded n room digits len = take_at digits (replicate (room - length digits) 0) n len

-- the digits of a range of bytes
pub digits_of-range : (start end : ℕ) (bytes : List ℕ)
    → take (2 * (end - start)) (digits_of (take (end - start) (drop start bytes))) ≡ slice_range (digits_of bytes) (2 * start) (2 * end)
digits_of-range start end bytes =
    let n = end - start in
    let count : 2 * end - 2 * start ≡ 2 * n = omega arith in
    rw (count, drop-digits_of start bytes, ← take-digits_of n (drop start bytes)) (take-take (2 * n) (2 * n) (digits_of (drop start bytes)) (omega arith))
