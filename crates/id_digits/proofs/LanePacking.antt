-- Bytes packed of two values each.
use Rattle.id_digits.proofs.Std.{◌≡◌, ℕ, zero, suc, ◌+◌, ◌*◌, ◌/◌, ◌%◌, true, ltb, List, [], ◌∷◌, ◌++◌, length, take, drop, refl, ap, arith, ltb-true, length-append, and_parts, pick_l_whole, list_all, range_with_len, pick_l}
use Rattle.id_digits.specs.Digits.{digits_of}
use Rattle.id_digits.specs.Letters.{is_digit, packed}

-- the lanes of two vectors that were shuffled together, packed
pub packed-lanes : (front back : List ℕ) → length front ≡ 16 → length back ≡ 16
    → packed (pick_l 0 (front ++ back) (range_with_len 0 32)) ≡ packed (front ++ back)
packed-lanes front back long also = ap packed (pick_l_whole 0 (front ++ back) 32 (omega (arith, length-append front back)))

-- a byte of each two values
pub length-packed : (n : ℕ) (v : List ℕ) → length v ≡ 2 * n → length (packed v) ≡ n
unfolding packed
length-packed zero [] e = refl
length-packed (suc n) [] e = absurd (omega arith)
length-packed n (a ∷ []) e = absurd (omega arith)
length-packed zero (a ∷ (b ∷ v)) e = absurd (omega arith)
length-packed (suc n) (a ∷ (b ∷ v)) e = ap suc (length-packed n v (omega arith))

-- digits are packed to bytes that have them
pub digits_of-packed : (n : ℕ) (v : List ℕ) → length v ≡ 2 * n → list_all is_digit v ≡ true → digits_of (packed v) ≡ v
unfolding packed digits_of
digits_of-packed n [] e h = refl
digits_of-packed n (a ∷ []) e h = absurd (omega arith)
digits_of-packed zero (a ∷ (b ∷ v)) e h = absurd (omega arith)
digits_of-packed (suc n) (a ∷ (b ∷ v)) e h =
    let first : (ltb a 16 ≡ true) × (list_all is_digit (b ∷ v) ≡ true) = and_parts _ _ h in
    let second : (ltb b 16 ≡ true) × (list_all is_digit v ≡ true) = and_parts _ _ first.1 in
    let high : (a * 16 % 256 + b) % 256 / 16 ≡ a = omega (arith, ltb-true _ _ first.0, ltb-true _ _ second.0) in
    let low : (a * 16 % 256 + b) % 256 % 16 ≡ b = omega (arith, ltb-true _ _ first.0, ltb-true _ _ second.0) in
    rw (high, low) (ap (λ r. a ∷ b ∷ r) (digits_of-packed n v (omega arith) second.1))

-- twice a number, by its steps
abbrev pub twice : ℕ → ℕ
twice zero = zero
twice (suc n) = suc (suc (twice n))

-- the first bytes are packed of the first values, and the rest of the others
pub packed-take : (n : ℕ) (v : List ℕ) → packed (take (twice n) v) ≡ take n (packed v)
unfolding packed
packed-take zero v = refl
packed-take (suc n) [] = refl
packed-take (suc n) (a ∷ []) = refl
packed-take (suc n) (a ∷ (b ∷ v)) = ap (λ r. (a * 16 % 256 + b) % 256 ∷ r) (packed-take n v)

pub packed-drop : (n : ℕ) (v : List ℕ) → packed (drop (twice n) v) ≡ drop n (packed v)
unfolding packed
packed-drop zero v = refl
packed-drop (suc n) [] = refl
packed-drop (suc n) (a ∷ []) = refl
packed-drop (suc n) (a ∷ (b ∷ v)) = packed-drop n v
