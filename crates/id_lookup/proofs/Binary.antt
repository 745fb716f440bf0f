-- The number of binary digits is the smallest b with n < 2 ^ b, and half of a number has one less.
use Rattle.gix_hash.proofs.Std.{◌≡◌, ℕ, zero, suc, ◌+◌, ◌*◌, ◌/◌, ◌^◌, ◌≤◌, ◌<◌, ◌⊎◌, inl, inr, arith, pow-suc, pow_mono, cases_lt}
use Rattle.std.proofs.lemmas.Nat.{leading_length}
use Rattle.std.specs.Int.Count.{count_leading_zeros}
use Rattle.id_lookup.specs.Runs.{halvings_within, bits}

-- as many doublings reach above n
halvings-above : (most n : ℕ) → n ≤ most → n < 2 ^ halvings_within most n
unfolding halvings_within
halvings-above zero n h = omega arith
halvings-above (suc most) zero h = omega arith
halvings-above (suc most) (suc n) h =
    let half = halvings-above most (suc n / 2) (omega arith) in
    let twice = pow-suc 2 (halvings_within most (suc n / 2)) in
    omega arith

-- and no fewer do
halvings-least : (most n b : ℕ) → n < 2 ^ b → halvings_within most n ≤ b
unfolding halvings_within
halvings-least zero n b h = omega arith
halvings-least (suc most) zero b h = omega arith
halvings-least (suc most) (suc n) zero h = absurd (omega arith)
halvings-least (suc most) (suc n) (suc b) h =
    let twice = pow-suc 2 b in
    let half = halvings-least most (suc n / 2) b (omega arith) in
    omega arith

pub bits-above : (n : ℕ) → n < 2 ^ bits n
unfolding bits
bits-above n = halvings-above n n (omega arith)

pub bits-least : (n b : ℕ) → n < 2 ^ b → bits n ≤ b
unfolding bits
bits-least n b h = halvings-least n n b h

-- more has at least as many
pub bits-mono : (m n : ℕ) → m ≤ n → bits m ≤ bits n
bits-mono m n h = let above = bits-above n in bits-least m (bits n) (omega arith)

-- at most half has fewer
pub bits-half : (n m : ℕ) → 0 < n → m + m ≤ n → suc (bits m) ≤ bits n
bits-half n m some half = by (bits n) (bits-above n)
  where
    by : (b : ℕ) → n < 2 ^ b → suc (bits m) ≤ b
    by zero above = absurd (omega arith)
    by (suc b) above = let twice = pow-suc 2 b in let less = bits-least m b (omega arith) in omega arith

-- m digits of which the highest is set are the number of binary digits
bits-length : (n m : ℕ) → n < 2 ^ m → 2 ^ m ≤ 2 * n + 1 → m ≡ bits n
bits-length n m above top =
    let least = bits-least n m above in
    let reach = bits-above n in
    let twice = pow-suc 2 (bits n) in
    by (cases_lt (bits n) m) least reach twice
  where
    by : ((bits n < m) ⊎ (m ≤ bits n)) → bits n ≤ m → n < 2 ^ bits n → 2 ^ suc (bits n) ≡ 2 ^ bits n * 2 → m ≡ bits n
    by (inl more) least reach twice = absurd (let grown = pow_mono {i = suc (bits n)} {j = m} (omega arith) in omega arith)
    by (inr same) least reach twice = omega arith

-- what the leading zeros of 64 bits leave
pub bits-leading : (n : ℕ) → n < 2 ^ 64 → count_leading_zeros 64 n + bits n ≡ 64
bits-leading n h =
    let long = leading_length 64 n h in
    let same = bits-length n long.0 long.2 long.3 in
    omega (arith, long.1)
