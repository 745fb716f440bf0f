-- Parts of a list.
use Rattle.gix_hash.proofs.Std.{◌≡◌, ℕ, suc, ◌+◌, ◌-◌, ◌<◌, ◌≤◌, Bool, true, false, cond, not, ltb, inl, inr, Option, None, Some, List, [], ◌∷◌, ◌++◌, length, get_or, take, drop, refl, sym, ap, ◌∙◌, arith, All, All-head, All-tail, slice_range, cases_lt, drop-drop, drop-take, get_or-drop, get_or-take, get_or_default, le-ltb, length-drop, length-take, length-take-le, lt-ltb, option_map, position, position_or_len, take-add, take-take}

module _ {X : Type 0} (xs : List X) where
  -- an element of those from one position to another, and how many these are
  pub range_at : (a b k : ℕ) (d e : X) → k < length (slice_range xs a b) → get_or (slice_range xs a b) k d ≡ get_or xs (a + k) e
  range_at a b k d e low =
      let long = length-take (b - a) (drop a xs) in
      let rest = length-drop a xs in
      get_or-take (b - a) (drop a xs) k d (omega (arith, low, long)) ∙ get_or-drop a xs k d ∙ get_or_default xs (a + k) d e (omega (arith, low, long, rest))

  pub length-range : (a b : ℕ) → b ≤ length xs → length (slice_range xs a b) ≡ b - a
  length-range a b inside = let rest = length-drop a xs in length-take-le (b - a) (drop a xs) (omega (arith, rest, inside))

  -- they are those up to one between, and those after
  pub split : (a m b : ℕ) → a ≤ m → m ≤ b → slice_range xs a b ≡ slice_range xs a m ++ slice_range xs m b
  split a m b low high =
      let sum : b - a ≡ (m - a) + (b - m) = omega (arith, low, high) in
      let there : a + (m - a) ≡ m = omega (arith, low) in
      ap (λ n. take n (drop a xs)) sum ∙ take-add (m - a) (b - m) (drop a xs)
      ∙ ap (λ (rest : List X). slice_range xs a m ++ take (b - m) rest) (drop-drop (m - a) a xs ∙ ap (λ n. drop n xs) there)

  pub part_of_part : (n at len from : ℕ) → at + n ≤ len → take n (drop at (take len (drop from xs))) ≡ take n (drop (from + at) xs)
  part_of_part n at len from within =
      let rest : at + (len - at) ≡ len = omega (arith, within) in
      ap (λ j. take n (drop at (take j (drop from xs)))) (sym rest) ∙ ap (take n) (drop-take at (len - at) (drop from xs))
      ∙ take-take n (len - at) (drop at (drop from xs)) (omega (arith, within)) ∙ ap (take n) (drop-drop at from xs)

  pub range_within : (a b from to : ℕ) → a ≤ from → from ≤ to → to ≤ b → slice_range (slice_range xs a b) (from - a) (to - a) ≡ slice_range xs from to
  range_within a b from to low rise high =
      let at : a + (from - a) ≡ from = omega (arith, low) in
      let many : to - a - (from - a) ≡ to - from = omega (arith, low, rise) in
      part_of_part (to - a - (from - a)) (from - a) (b - a) a (omega (arith, low, rise, high)) ∙ (λ i. take (many i) (drop (at i) xs))

pub shifted : (a b c : ℕ) (o : Option ℕ) → a + b ≡ c → option_map (λ k. c + k) o ≡ option_map (λ k. a + k) (option_map (λ k. b + k) o)
shifted a b c None is = refl
shifted a b c (Some k) is = let same : c + k ≡ a + (b + k) = omega (arith, is) in ap Some same

-- where the first element is that passes a test
module _ {X : Type 0} (p : X → Bool) where
  position-cons : (x : X) (xs : List X) → position p (x ∷ xs) ≡ cond (p x) (Some 0) (option_map (λ k. 1 + k) (position p xs))
  position-cons x xs =
      let n = position_or_len p xs in
      let size = suc (length xs) in
      elim (p x) as (λ t. cond (ltb (cond (not t) (1 + n) 0) size) (Some (cond (not t) (1 + n) 0)) None ≡ cond t (Some 0) (option_map (λ k. 1 + k) (position p xs))) [
        | true ↦ rw (lt-ltb 0 size (omega arith)) refl
        | false ↦ elim (cases_lt n (length xs)) [
          | inl less ↦ rw (lt-ltb n (length xs) less, lt-ltb (1 + n) size (omega (arith, less))) refl
          | inr past ↦ rw (le-ltb n (length xs) past, le-ltb (1 + n) size (omega (arith, past))) refl
        ]
      ]

  position-none : (xs : List X) → All (λ x. p x ≡ false) xs → position p xs ≡ None
  position-none [] none = refl
  position-none (x ∷ xs) none =
      let rest = position-none xs (All-tail (λ x. p x ≡ false) x xs none) in
      position-cons x xs ∙ (λ i. cond (All-head (λ x. p x ≡ false) x xs none i) (Some 0) (option_map (λ k. 1 + k) (rest i)))

  -- none before the others does, and none after them
  position-after : (xs after : List X) → All (λ x. p x ≡ false) after → position p (xs ++ after) ≡ position p xs
  position-after [] after none = position-none after none
  position-after (x ∷ xs) after none =
      position-cons x (xs ++ after) ∙ ap (λ o. cond (p x) (Some 0) (option_map (λ k. 1 + k) o)) (position-after xs after none) ∙ sym (position-cons x xs)

  pub position_between : (before xs after : List X) → All (λ x. p x ≡ false) before → All (λ x. p x ≡ false) after
      → position p (before ++ (xs ++ after)) ≡ option_map (λ k. length before + k) (position p xs)
  position_between [] xs after none none_after =
      position-after xs after none_after ∙ elim (position p xs) as (λ o. o ≡ option_map (λ k. 0 + k) o) [ None ↦ refl | Some k ↦ let same : k ≡ 0 + k = omega arith in ap Some same ]
  position_between (x ∷ before) xs after none none_after =
      let rest = position_between before xs after (All-tail (λ x. p x ≡ false) x before none) none_after in
      position-cons x (before ++ (xs ++ after)) ∙ (λ i. cond (All-head (λ x. p x ≡ false) x before none i) (Some 0) (option_map (λ k. 1 + k) (rest i)))
      ∙ sym (shifted 1 (length before) (suc (length before)) (position p xs) (omega arith))
