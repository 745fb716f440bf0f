-- Positions in an order, each after a key.
use Rattle.gix_hash.proofs.Std.{◌≡◌, ◌≢◌, ◌∙◌, ℕ, ◌+◌, ◌<◌, List, [], ◌∷◌, ◌++◌, length, get_or, map, sym, ap, subst, arith, All, IsDistinct, range_with_len, IsPermutation, eqb, eqb-false, ne_eqb, get_or-map, length-map, map-append, map-id, All-map, get_or-range_with_len, length-range_with_len, map-range_with_len_more, All-permutation, IsPermutation-sym, IsDistinct-IsPermutation, IsDistinct-from_apart, apart_from_distinct}
use Rattle.object_store.specs.Stores.{ArePlaces}

-- with the place of one more position, the places have the positions in order up to it
pub one_more : (n : ℕ) (places more : List (ℕ × ℕ)) (key : ℕ) → more ≡ places ++ (key, n) ∷ [] → map (λ (place : ℕ × ℕ). place.1) places ≡ range_with_len 0 n
    → map (λ (place : ℕ × ℕ). place.1) more ≡ range_with_len 0 (n + 1)
one_more n places more key is all =
    ap (map (λ (place : ℕ × ℕ). place.1)) is ∙ map-append (λ (place : ℕ × ℕ). place.1) places ((key, n) ∷ []) ∙ ap (λ (xs : List ℕ). xs ++ n ∷ []) all
    ∙ sym (sym (map-id (range_with_len 0 (n + 1))) ∙ map-range_with_len_more (λ k. k) 0 n n (omega arith) ∙ ap (λ (xs : List ℕ). xs ++ n ∷ []) (map-id (range_with_len 0 n)))

nth : (n k d : ℕ) → k < n → get_or (range_with_len 0 n) k d ≡ k
nth n k d low = get_or-range_with_len 0 n k d low ∙ omega arith

-- each of the numbers below n is below n
below : (n : ℕ) → All (λ k. k < n) (range_with_len 0 n)
below n k d low = let high : k < n = omega (arith, low, length-range_with_len 0 n) in rw (nth n k d high) high

-- each of the places has one of these numbers
pub in_range : (n : ℕ) (places : List (ℕ × ℕ)) → IsPermutation (range_with_len 0 n) (map (λ (place : ℕ × ℕ). place.1) places) → All (λ (place : ℕ × ℕ). place.1 < n) places
in_range n places order j p low =
    subst (λ k. k < n) (get_or-map (λ (place : ℕ × ℕ). place.1) places j p 0 low) (All-permutation (λ k. k < n) _ _ order (below n) j 0 (omega (arith, low, length-map places (λ (place : ℕ × ℕ). place.1))))

module _ (n : ℕ) (places : List (ℕ × ℕ)) (are : ArePlaces n places) where
  many : length (map (λ (place : ℕ × ℕ). place.1) places) ≡ length places
  many = length-map places (λ (place : ℕ × ℕ). place.1)

  -- what holds at each place holds of each position
  pub at_each_place : (P : ℕ → Type 0) → All (λ (place : ℕ × ℕ). P place.1) places → (k : ℕ) → k < n → P k
  at_each_place P all k low =
      subst P (nth n k 0 low)
      (All-permutation P _ _ (IsPermutation-sym _ _ are.order) (All-map P (λ (place : ℕ × ℕ). place.1) places all) k 0 (omega (arith, low, length-range_with_len 0 n)))

  -- two places have two positions
  pub apart : (i j : ℕ) (p : ℕ × ℕ) → i < j → j < length places → (get_or places i p).1 ≢ (get_or places j p).1
  apart i j p less low same =
      let differ : IsDistinct eqb (range_with_len 0 n) = IsDistinct-from_apart eqb (range_with_len 0 n) (λ i j d less low.
      let high : j < n = omega (arith, low, length-range_with_len 0 n) in
      let lower : i < n = omega (arith, less, high) in
      rw (nth n i d lower, nth n j d high) (ne_eqb i j (λ e. omega (arith, e, less)))) in
      eqb-false _ _ (apart_from_distinct eqb _ i j 0 (IsDistinct-IsPermutation eqb flips _ _ are.order differ) less (omega (arith, low, many)))
      (get_or-map (λ (place : ℕ × ℕ). place.1) places i p 0 (omega (arith, less, low)) ∙ same ∙ sym (get_or-map (λ (place : ℕ × ℕ). place.1) places j p 0 low))
    where
      flips : (x y : ℕ) → eqb x y ≡ eqb y x
      flips x y = grind arith
