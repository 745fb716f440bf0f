-- The first digits of a prefix against those of an id, by their numbers. If they are not equal, they decide.
use Rattle.gix_hash.proofs.Std.{◌≡◌, ◌≢◌, ℕ, zero, suc, ◌+◌, ◌-◌, ◌*◌, ◌/◌, ◌%◌, ◌^◌, ◌<◌, ◌≤◌, List, [], ◌∷◌, length, take, cond, ltb, bit_and, nat_cmp, nat_cmp_is, Ordering, Less, Equal, Greater, ordering_then, slice_cmp, refl, sym, ap, ◌∙◌, arith, All-take, length-take, length-take-le, take-take}
use Rattle.std.proofs.lemmas.Nat.Bits.{and_high_mask, ones_shl}
use borrow.Author.Tests.{lt-ltb}
use Rattle.id_digits.specs.Digits.{digits_of, place, word}
use Rattle.id_digits.proofs.ByteDigits.{take-digits_of}
use Rattle.id_digits.proofs.DigitNumbers.{AreDigits, pow16, word-cut, word-take, word_lt}
use Rattle.id_digits.proofs.NumberParts.{then_decided, then_equal}
use Rattle.id_digits.proofs.WordOrder.{slice_cmp-word}

-- the digits of the first eight bytes
pub word-first : (bytes : List ℕ) → word 16 (digits_of (take 8 bytes)) ≡ word 16 (digits_of bytes)
word-first bytes = ap (word 16) (sym (take-digits_of 8 bytes)) ∙ word-take 16 (digits_of bytes)

-- ones for the bits of the first d of 16 digits, from a shift that may take all out
pub front_ones : (d r : ℕ) → d ≤ 16 → r ≡ cond (ltb (64 - 4 * d) 64) ((2 ^ 64 - 1) * 2 ^ (64 - 4 * d) % 2 ^ 64) 0 → r ≡ 2 ^ 64 - 2 ^ (4 * (16 - d))
front_ones zero r within is = is
front_ones (suc d) r within is =
    let test = lt-ltb (64 - 4 * suc d) 64 (omega arith) in
    let same : 4 * (16 - suc d) ≡ 64 - 4 * suc d = omega arith in
    rw same (rw test at is ∙ ones_shl 64 (64 - 4 * suc d) (omega arith))

-- they keep as many digits of a word
masked : (k : ℕ) (ds : List ℕ) → AreDigits ds → k ≤ 16 → bit_and (word 16 ds) (2 ^ 64 - 2 ^ (4 * (16 - k))) ≡ word 16 (take k ds)
masked k ds h within =
    let small : word 16 ds < 2 ^ 64 = word_lt 16 ds h in
    let all : k + (16 - k) ≡ 16 = omega arith in
    let cut : word 16 (take k ds) ≡ word 16 ds / 16 ^ (16 - k) * 16 ^ (16 - k) = rw all at (word-cut k (16 - k) ds h) in
    rw (and_high_mask 64 (4 * (16 - k)) (omega arith) (word 16 ds) small, cut, pow16 (16 - k)) refl

-- up to 16 digits have the place of their number
pub place-word : (ds es : List ℕ) → AreDigits ds → AreDigits es → length ds ≤ 16 → 16 ≤ length es
    → place ds es ≡ nat_cmp (word 16 ds) (bit_and (word 16 es) (2 ^ 64 - 2 ^ (4 * (16 - length ds))))
place-word ds es f g few reach =
    let k = length ds in
    let own = nat_cmp (word 16 ds) (word 16 (take k es)) in
    let ties = sym (nat_cmp_is k (length (take k es)) Equal (sym (length-take-le k es (omega (arith, few, reach))))) in
    sym (slice_cmp-word 16 ds (take k es) f (All-take (λ (x : ℕ). x < 16) k es g) few (omega (arith, few, length-take k es)))
    ∙ ap (ordering_then own) ties ∙ then_equal own ∙ ap (nat_cmp (word 16 ds)) (sym (masked k es g few))

-- if one order is decided by another, so are both after a third
then_both : (a b c : Ordering) → ordering_then b c ≡ c → ordering_then (ordering_then a b) (ordering_then a c) ≡ ordering_then a c
then_both Less b c h = refl
then_both Equal b c h = h
then_both Greater b c h = refl

-- the place of the first digits, and then that of all, is that of all
first_then : (k : ℕ) (ds es : List ℕ) → ordering_then (place (take k ds) es) (place ds es) ≡ place ds es
first_then zero ds es = refl
first_then (suc k) [] es = refl
first_then (suc k) (d ∷ ds) [] = refl
first_then (suc k) (d ∷ ds) (e ∷ es) = then_both (nat_cmp d e) (place (take k ds) es) (place ds es) (first_then k ds es)

-- the first digits of a prefix decide its place against an id, unless they tie with those of the id
pub place-first : (ds es : List ℕ) (order : Ordering) → order ≡ place (take 16 ds) (take 16 es) → order ≢ Equal → order ≡ place ds es
place-first ds es order is decides =
    let first = take 16 ds in
    let same : place first (take 16 es) ≡ place first es = ap (slice_cmp nat_cmp first) (take-take (length first) 16 es (omega (arith, length-take 16 ds))) in
    let own = is ∙ same in
    own ∙ sym (then_decided (place first es) (place ds es) (λ ties. decides (own ∙ ties))) ∙ first_then 16 ds es
