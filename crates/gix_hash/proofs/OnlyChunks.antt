-- The chunks of n bytes are the only numbers with the sum n of which all but the last are full.
use Rattle.id_digits.proofs.Std.{◌≡◌, ℕ, zero, suc, ◌+◌, ◌-◌, ◌*◌, ◌/◌, ◌%◌, ◌<◌, ◌≤◌, List, [], ◌∷◌, length, take, refl, ap, arith, ◌⊎◌, inl, inr, eq-or-lt_of_le, sum, sum_by-cons, All-nil, All-cons, All-head, All-tail}
use Rattle.gix_hash.specs.Hashing.{chunks, last_chunk, IsChunkLen, AreChunks}

abbrev IsFull : ℕ → Type 0
IsFull len = len ≡ 65535

chunks-zero : chunks 0 ≡ []
unfolding chunks last_chunk
chunks-zero = refl

-- fewer bytes than a full chunk are one chunk
chunks-few : (n : ℕ) → n + 1 < 65535 → chunks (suc n) ≡ suc n ∷ []
unfolding chunks last_chunk
chunks-few n few =
    let none_full : suc n / 65535 ≡ 0 = omega arith in
    let all_left : suc n % 65535 ≡ suc n = omega arith in
    rw (none_full, all_left)

-- a full chunk goes before the chunks of the rest
chunks-more : (n : ℕ) → chunks (65535 + n) ≡ 65535 ∷ chunks n
unfolding chunks last_chunk
chunks-more n =
    let one_more : (65535 + n) / 65535 ≡ suc (n / 65535) = omega arith in
    let as_left : (65535 + n) % 65535 ≡ n % 65535 = omega arith in
    rw (one_more, as_left)

are-none : AreChunks 0 []
are-none = record { all = refl; full = All-nil _; sizes = All-nil _ }

are-one : (n : ℕ) → 0 < n → n ≤ 65535 → AreChunks n (n ∷ [])
are-one n some few = record { all = omega arith; full = All-nil _; sizes = All-cons IsChunkLen n [] (some, few) (All-nil _) }

are-more : (n : ℕ) (lens : List ℕ) → AreChunks n lens → AreChunks (65535 + n) (65535 ∷ lens)
are-more n [] are = record {
  all = omega (arith, are.all);
  full = All-nil _;
  sizes = All-cons IsChunkLen 65535 [] (omega arith, omega arith) are.sizes;
}
are-more n (x ∷ lens) are =
    let before : suc (suc (length lens)) - 1 ≡ suc (length lens) = omega arith in
    let after : suc (length lens) - 1 ≡ length lens = omega arith in
    record {
      all = rw sum_by-cons (ap (λ total. 65535 + total) are.all);
      full = rw before (All-cons IsFull 65535 (take (length lens) (x ∷ lens)) refl (rw after at are.full));
      sizes = All-cons IsChunkLen 65535 (x ∷ lens) (omega arith, omega arith) are.sizes;
    }

AreChunks-chunks_from : (q r m : ℕ) → m ≡ 65535 * q + r → r < 65535 → AreChunks m (chunks m)
AreChunks-chunks_from zero zero m is small =
    let none : m ≡ 0 = omega arith in
    rw (none, chunks-zero) are-none
AreChunks-chunks_from zero (suc r) m is small =
    let some : m ≡ suc r = omega arith in
    rw (some, chunks-few r (omega arith)) (are-one (suc r) (omega arith) (omega arith))
AreChunks-chunks_from (suc q) r m is small =
    let more : m ≡ 65535 + (65535 * q + r) = omega arith in
    rw (more, chunks-more) (are-more _ _ (AreChunks-chunks_from q r _ refl small))

-- the chunks of n bytes are such numbers
pub AreChunks-chunks : (n : ℕ) → AreChunks n (chunks n)
AreChunks-chunks n = AreChunks-chunks_from (n / 65535) (n % 65535) n (omega arith) (omega arith)

one_is_chunks : (n x : ℕ) → x ≡ n → IsChunkLen x → (x ≡ 65535) ⊎ (x < 65535) → x ∷ [] ≡ chunks n
one_is_chunks n zero same size which = absurd (omega arith)
one_is_chunks n (suc x) same size (inl full) =
    let whole : n ≡ 65535 + 0 = omega arith in
    rw (whole, chunks-more, chunks-zero, full)
one_is_chunks n (suc x) same size (inr few) = rw (← same, chunks-few x (omega arith))

-- such numbers are the chunks of n bytes
pub chunks-unique : (n : ℕ) (lens : List ℕ) → AreChunks n lens → lens ≡ chunks n
chunks-unique n [] are =
    let none : n ≡ 0 = omega (arith, are.all) in
    rw (none, chunks-zero)
chunks-unique n (x ∷ []) are =
    let size = All-head IsChunkLen x [] are.sizes in
    one_is_chunks n x (omega (arith, are.all)) size (eq-or-lt_of_le size.1)
chunks-unique n (x ∷ y ∷ lens) are =
    let before : suc (suc (length lens)) - 1 ≡ suc (length lens) = omega arith in
    let after : suc (length lens) - 1 ≡ length lens = omega arith in
    let full = rw before at are.full in
    let first = All-head IsFull x (take (length lens) (y ∷ lens)) full in
    let total : x + sum (y ∷ lens) ≡ n = rw (← sum_by-cons (λ len. len) x (y ∷ lens)) are.all in
    let rest = chunks-unique (n - 65535) (y ∷ lens) (record {
      all = omega arith;
      full = rw after (All-tail IsFull x (take (length lens) (y ∷ lens)) full);
      sizes = All-tail IsChunkLen x (y ∷ lens) are.sizes;
    }) in
    let whole : n ≡ 65535 + (n - 65535) = omega arith in
    rw (whole, chunks-more, ← rest, first)
