-- The digits that two lists of bytes share: two for each byte, and one more if the next bytes share their high half.
use Rattle.id_digits.proofs.Std.{◌≡◌, ◌≢◌, ℕ, suc, ◌+◌, ◌/◌, ◌%◌, ◌<◌, ◌≤◌, cond, nat_eq, List, [], ◌∷◌, length, get_or, min, drop, refl, ◌∙◌, arith, inl, inr, ◌⊎◌, drop-cons, common_prefix_len, nat_tests, cases_lt, cond-false, cond-true, eq-eqb, ne_eqb, drop_all}
use Rattle.id_digits.specs.Digits.{digits_of}

abbrev common : List ℕ → List ℕ → ℕ
common = common_prefix_len nat_eq

-- one byte each: both halves, only the high half, or none
one_byte : (x y n : ℕ) → cond (nat_eq (x / 16) (y / 16)) (1 + cond (nat_eq (x % 16) (y % 16)) (1 + n) 0) 0
    ≡ cond (nat_eq x y) (2 + n) (cond (nat_eq (x / 16) (y / 16)) 1 0)
one_byte x y n = grind (arith, nat_tests)

byte_step : (x y : ℕ) (xs ys : List ℕ) → common (digits_of (x ∷ xs)) (digits_of (y ∷ ys))
    ≡ cond (nat_eq x y) (2 + common (digits_of xs) (digits_of ys)) (cond (nat_eq (x / 16) (y / 16)) 1 0)
unfolding digits_of
byte_step x y xs ys = one_byte x y (common (digits_of xs) (digits_of ys))

module _ (xs ys : List ℕ) (at : ℕ) (in_first : at < length xs) (in_second : at < length ys) where
  here : common (digits_of (drop at xs)) (digits_of (drop at ys))
      ≡ cond (nat_eq (get_or xs at 0) (get_or ys at 0)) (2 + common (digits_of (drop (suc at) xs)) (digits_of (drop (suc at) ys)))
      (cond (nat_eq (get_or xs at 0 / 16) (get_or ys at 0 / 16)) 1 0)
  here = rw (drop-cons xs at 0 in_first, drop-cons ys at 0 in_second) (byte_step (get_or xs at 0) (get_or ys at 0) (drop (suc at) xs) (drop (suc at) ys))

  -- equal bytes share both their digits
  pub same_byte : get_or xs at 0 ≡ get_or ys at 0
      → common (digits_of (drop at xs)) (digits_of (drop at ys)) ≡ 2 + common (digits_of (drop (suc at) xs)) (digits_of (drop (suc at) ys))
  same_byte same = here ∙ cond-true _ _ _ (eq-eqb _ _ same)

  -- other bytes share at most their high half, and nothing after it
  pub other_byte : get_or xs at 0 ≢ get_or ys at 0
      → common (digits_of (drop at xs)) (digits_of (drop at ys)) ≡ cond (nat_eq (get_or xs at 0 / 16) (get_or ys at 0 / 16)) 1 0
  other_byte other = here ∙ cond-false _ _ _ (ne_eqb _ _ other)

-- after the end of one list nothing is shared
common-nil : (xs : List ℕ) → common xs [] ≡ 0
common-nil [] = refl
common-nil (x ∷ xs) = refl

pub no_more : (xs ys : List ℕ) (at : ℕ) → min (length xs) (length ys) ≤ at → common (digits_of (drop at xs)) (digits_of (drop at ys)) ≡ 0
unfolding digits_of
no_more xs ys at h = by (cases_lt at (length xs))
  where
    by : ((at < length xs) ⊎ (length xs ≤ at)) → common (digits_of (drop at xs)) (digits_of (drop at ys)) ≡ 0
    by (inl inside) = rw (drop_all at ys (omega arith)) (common-nil (digits_of (drop at xs)))
    by (inr past) = rw (drop_all at xs past) refl
