-- If each member that passes a test comes before each that fails it, those that pass are the first ones, by their count.
use Rattle.gix_hash.proofs.Std.{◌≡◌, ℕ, zero, suc, ◌+◌, ◌<◌, Bool, true, false, cond, nat_lt, List, [], ◌∷◌, ◌++◌, length, get_or, refl, sym, ap, ◌∙◌, arith, All, count_by, IsPartitionedBy, false≢true, false_from_ne_true, lt-ltb, le-ltb, nat_tests, sum_by-append, sum_by-cons, length-filter}
use Rattle.id_lookup.proofs.Filtering.{filter_none}

-- two tests of order are equal if their conditions imply each other
same_test : (a b m n : ℕ) → (a < b → m < n) → (m < n → a < b) → nat_lt a b ≡ nat_lt m n
same_test a b m n f g = grind (arith, nat_tests)

module _ {X : Type 0} (p : X → Bool) where
  -- a count is that of the first member and that of the rest
  pub count_by-cons : (x : X) (xs : List X) → count_by p (x ∷ xs) ≡ cond (p x) 1 0 + count_by p xs
  count_by-cons x xs = sum_by-cons (λ y. cond (p y) 1 0) x xs

  -- the rest of a partitioned list is partitioned
  partitioned_rest : (x : X) (xs : List X) → IsPartitionedBy p (x ∷ xs) → IsPartitionedBy p xs
  partitioned_rest x xs parted i j d h g = parted (suc i) (suc j) d (omega arith) (omega arith)

  -- where no member passes, the count is 0
  pub count_zero : (xs : List X) → All (λ x. p x ≡ false) xs → count_by p xs ≡ 0
  count_zero xs none = sym (length-filter p xs) ∙ ap length (filter_none p xs none)

  -- a member passes if and only if its index is below the count
  pub passes_below : (xs : List X) → IsPartitionedBy p xs → (k : ℕ) (d : X) → k < length xs → p (get_or xs k d) ≡ nat_lt k (count_by p xs)
  passes_below [] parted k d h = absurd (omega arith)
  passes_below (x ∷ xs) parted k d h = rw (count_by-cons x xs) (by (p x) refl (passes_below xs (partitioned_rest x xs parted)) k h)
    where
      -- after a first member that fails, none passes
      none_after : p x ≡ false → All (λ y. p y ≡ false) xs
      none_after e j c inside = false_from_ne_true _ (λ passes. false≢true (sym e ∙ parted 0 (suc j) c (omega arith) (omega arith) passes))

      by : (b : Bool) → p x ≡ b → ((k : ℕ) (d : X) → k < length xs → p (get_or xs k d) ≡ nat_lt k (count_by p xs))
          → (k : ℕ) → k < suc (length xs) → p (get_or (x ∷ xs) k d) ≡ nat_lt k (cond b 1 0 + count_by p xs)
      by true e rest zero h = e ∙ sym (lt-ltb 0 (1 + count_by p xs) (omega arith))
      by true e rest (suc k) h = rest k d (omega arith) ∙ same_test k (count_by p xs) (suc k) (1 + count_by p xs) (λ less. omega arith) (λ less. omega arith)
      by false e rest zero h = e ∙ sym (le-ltb 0 (0 + count_by p xs) (omega (arith, count_zero xs (none_after e))))
      by false e rest (suc k) h = none_after e k d (omega arith) ∙ sym (le-ltb (suc k) (0 + count_by p xs) (omega (arith, count_zero xs (none_after e))))

-- the count of two lists, one after the other
pub count_by-append : {X : Type 0} (p : X → Bool) (xs ys : List X) → count_by p (xs ++ ys) ≡ count_by p xs + count_by p ys
count_by-append p xs ys = sum_by-append (λ x. cond (p x) 1 0) xs ys

-- if at each member one test passes as often as two others together, its count is the sum of theirs
pub count_by-split : {X : Type 0} (p q r : X → Bool) → ((x : X) → cond (p x) 1 0 ≡ cond (q x) 1 0 + cond (r x) 1 0)
    → (xs : List X) → count_by p xs ≡ count_by q xs + count_by r xs
count_by-split p q r splits [] = refl
count_by-split p q r splits (x ∷ xs) =
    omega (arith, splits x, count_by-split p q r splits xs, count_by-cons p x xs, count_by-cons q x xs, count_by-cons r x xs)
