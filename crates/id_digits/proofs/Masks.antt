-- What a mask of a word's first digits keeps.
use Rattle.id_digits.proofs.Std.{◌≡◌, ℕ, ◌+◌, ◌-◌, ◌*◌, ◌/◌, ◌%◌, ◌^◌, ◌<◌, ◌≤◌, List, take, refl, ◌∙◌, arith, inl, inr, cond, ltb, bit_and, cases_lt}
use Rattle.std.proofs.lemmas.Nat.Bits.{and_high_mask, ones_shl}
use borrow.Author.Tests.{le-ltb, lt-ltb}
use Rattle.id_digits.specs.Digits.{word}
use Rattle.id_digits.proofs.DigitNumbers.{AreDigits, pow16, word_lt, word-cut}

-- ones for the bits of the first d of 32 digits, from a shift that may take all out
pub front_ones : (d r : ℕ) → d ≤ 32 → r ≡ cond (ltb (128 - 4 * d) 128) ((2 ^ 128 - 1) * 2 ^ (128 - 4 * d) % 2 ^ 128) 0
    → r ≡ 2 ^ 128 - 2 ^ (4 * (32 - d))
front_ones d r within is =
    let same : 4 * (32 - d) ≡ 128 - 4 * d = omega arith in
    elim (cases_lt (128 - 4 * d) 128) [
      | inl some ↦
          let test = lt-ltb (128 - 4 * d) 128 some in
          let ones = ones_shl 128 (128 - 4 * d) (omega arith) in
          rw same (rw test at is ∙ ones)
      | inr none ↦
          let test = le-ltb (128 - 4 * d) 128 none in
          let all : 128 - 4 * d ≡ 128 = omega arith in
          rw (same, all) (rw test at is)
    ]

-- they keep the first k digits of a word
pub word-masked : (w mask k : ℕ) (ds : List ℕ) → AreDigits ds → k ≤ 32 → w ≡ word 32 ds → mask ≡ 2 ^ 128 - 2 ^ (4 * (32 - k))
    → bit_and w mask ≡ word 32 (take k ds)
word-masked w mask k ds h within is ones =
    let small : word 32 ds < 2 ^ 128 = word_lt 32 ds h in
    let all : k + (32 - k) ≡ 32 = omega arith in
    let cut : word 32 (take k ds) ≡ word 32 ds / 16 ^ (32 - k) * 16 ^ (32 - k) = rw all at (word-cut k (32 - k) ds h) in
    rw (is, ones, and_high_mask 128 (4 * (32 - k)) (omega arith) (word 32 ds) small, cut, pow16 (32 - k)) refl
