-- The place of a prefix against an id, by the id's first byte.
use Rattle.gix_hash.proofs.Std.{◌≡◌, ℕ, ◌+◌, ◌*◌, ◌<◌, ◌≤◌, List, [], ◌∷◌, length, slice_index, inl, inr, refl, arith, All, Ordering, Less, Equal, Greater, nat_cmp, ordering_then, MatchOrdering, ranks, cases_lt, get_or_past}
use Rattle.gix_hash.specs.Words.{first_byte_of, place}

-- each digit is below 16, and what is read after the last one too
abbrev pub AreDigits : List ℕ → Type 0
AreDigits digits = (k : ℕ) → slice_index digits k < 16

pub are_digits : (digits : List ℕ) → All (λ d. d < 16) digits → AreDigits digits
are_digits digits small k =
    elim (cases_lt k (length digits)) [
      | inl inside ↦ small k 0 inside
      | inr past ↦ rw (get_or_past digits k 0 past) (omega arith)
    ]

-- what holds in each of the three orders of two numbers holds for their comparison
pub by_cmp : (x y : ℕ) (P : Ordering → Type 0) → (x < y → P Less) → (x ≡ y → P Equal) → (y < x → P Greater) → P (nat_cmp x y)
by_cmp x y P less equal greater =
    elim (nat_cmp x y) as (λ o. MatchOrdering o (x < y) (x ≡ y) (y < x) → P o) [ Less ↦ less | Equal ↦ equal | Greater ↦ greater ] (ranks x y)

-- the last byte that begins with the first two digits, or the fewer there are
pub last_byte_of : List ℕ → ℕ
last_byte_of [] = 255
last_byte_of (d ∷ []) = 16 * d + 15
last_byte_of (d ∷ e ∷ ps) = 16 * d + e

-- the place of a prefix against an id, by the id's first byte: below those that begin with the prefix's digits, one of them, or above them
pub by_bytes : (p id : List ℕ) (P : Ordering → Type 0) → length p ≤ length id → AreDigits p → AreDigits id
    → (first_byte_of id < first_byte_of p → first_byte_of id ≤ last_byte_of p → P Greater)
    → ((o : Ordering) → (length p < 2 → o ≡ Equal) → first_byte_of p ≤ first_byte_of id → first_byte_of id ≤ last_byte_of p → P o)
    → (first_byte_of p ≤ first_byte_of id → last_byte_of p < first_byte_of id → P Less) → P (place p id)
unfolding last_byte_of
by_bytes [] id P reach small small' after among before =
    let high : slice_index id 0 < 16 = small' 0 in
    let low : slice_index id 1 < 16 = small' 1 in
    among Equal (λ _. refl) (omega arith) (omega arith)
by_bytes (d ∷ ps) [] P reach small small' after among before = absurd (omega arith)
by_bytes (d ∷ []) (a ∷ ids) P reach small small' after among before =
    let low : slice_index (a ∷ ids) 1 < 16 = small' 1 in
    by_cmp d a (λ o. P (ordering_then o Equal))
    (λ l. before (omega arith) (omega arith)) (λ l. among Equal (λ _. refl) (omega arith) (omega arith)) (λ l. after (omega arith) (omega arith))
by_bytes (d ∷ e ∷ ps) (a ∷ []) P reach small small' after among before = absurd (omega arith)
by_bytes (d ∷ e ∷ ps) (a ∷ b ∷ ids) P reach small small' after among before =
    let next : e < 16 = small 1 in
    let low : b < 16 = small' 1 in
    by_cmp d a (λ o. P (ordering_then o (ordering_then (nat_cmp e b) (place ps ids))))
    (λ l. before (omega arith) (omega arith))
    (λ l. by_cmp e b (λ o. P (ordering_then o (place ps ids))) (λ m. before (omega arith) (omega arith))
    (λ m. among (place ps ids) (λ short. absurd (omega arith)) (omega arith) (omega arith)) (λ m. after (omega arith) (omega arith)))
    (λ l. after (omega arith) (omega arith))

-- the last byte, by cases of the number of digits
pub last_byte_is : (p : List ℕ) (n first last : ℕ) → n ≡ length p → first ≡ first_byte_of p
    → (n ≡ 0 → last ≡ 255) → (n ≡ 1 → last ≡ first + 15) → (2 ≤ n → last ≡ first) → last ≡ last_byte_of p
unfolding last_byte_of
last_byte_is [] n first last len is none one more = none len
last_byte_is (d ∷ []) n first last len is none one more = omega (arith, one len, is)
last_byte_is (d ∷ e ∷ ps) n first last len is none one more = omega (arith, more (omega arith), is)

pub last_byte_of-first : (p : List ℕ) → 2 ≤ length p → last_byte_of p ≡ first_byte_of p
unfolding last_byte_of
last_byte_of-first [] h = absurd (omega arith)
last_byte_of-first (d ∷ []) h = absurd (omega arith)
last_byte_of-first (d ∷ e ∷ ps) h = refl
