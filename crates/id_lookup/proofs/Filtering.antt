-- If the elements that pass a test are next to each other, the filtered list is that part of the list.
use Rattle.gix_hash.proofs.Std.{◌≡◌, ℕ, suc, ◌≤◌, Bool, true, false, List, [], ◌∷◌, ◌++◌, take, drop, filter, refl, sym, ap, ◌∙◌, arith, append-nil, take-append-drop, All, slice_range, drop_split, filter-append}

module _ {X : Type 0} (p : X → Bool) where
  -- where no element passes, the filtered list is empty
  pub filter_none : (xs : List X) → All (λ x. p x ≡ false) xs → filter p xs ≡ []
  filter_none [] none = refl
  filter_none (x ∷ xs) none = rw (none 0 x (omega arith)) (filter_none xs (λ k d h. none (suc k) d (omega arith)))

  -- where each element passes, the filtered list is the list
  pub filter_all : (xs : List X) → All (λ x. p x ≡ true) xs → filter p xs ≡ xs
  filter_all [] each = refl
  filter_all (x ∷ xs) each = rw (each 0 x (omega arith)) (ap (λ found. x ∷ found) (filter_all xs (λ k d h. each (suc k) d (omega arith))))

  -- a list up to a position, from there to another, and after that
  pub three_parts : (xs : List X) (start end : ℕ) → start ≤ end → take start xs ++ (slice_range xs start end ++ drop end xs) ≡ xs
  three_parts xs start end rise = ap (λ (rest : List X). take start xs ++ rest) (sym (drop_split xs start end rise)) ∙ take-append-drop start xs

  -- exactly the elements from one index up to another pass
  pub filter_run : (xs : List X) (start end : ℕ) → start ≤ end → All (λ x. p x ≡ false) (take start xs)
      → All (λ x. p x ≡ true) (slice_range xs start end) → All (λ x. p x ≡ false) (drop end xs) → slice_range xs start end ≡ filter p xs
  filter_run xs start end rise before within behind =
      let front = take start xs in
      let middle = slice_range xs start end in
      let parts = filter-append p front (middle ++ drop end xs) ∙ ap (λ rest. filter p front ++ rest) (filter-append p middle (drop end xs)) in
      sym (ap (filter p) (sym (three_parts xs start end rise)) ∙ parts
      ∙ rw (filter_none front before, filter_all middle within, filter_none (drop end xs) behind) (append-nil middle))
