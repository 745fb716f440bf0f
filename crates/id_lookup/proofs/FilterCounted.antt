-- A run of as many elements as pass a test, each of which passes, is the filtered list.
use Rattle.gix_hash.proofs.Std.{◌≡◌, ℕ, zero, suc, ◌+◌, ◌-◌, ◌≤◌, Bool, true, false, cond, List, [], ◌∷◌, ◌++◌, length, filter, take, drop, refl, sym, ap, ◌∙◌, arith, length-drop, slice_range, All, count_by, length-take-le, length-filter}
use Rattle.id_lookup.proofs.Counting.{count_by-append, count_by-cons}
use Rattle.id_lookup.proofs.Filtering.{filter_all, filter_run, three_parts}

-- if each element of a run passes a test, and as many pass in the whole list, then the run is the filtered list
module _ {X : Type 0} (p : X → Bool) where
  count_none : (xs : List X) → count_by p xs ≡ 0 → All (λ x. p x ≡ false) xs
  count_none [] none k d low = absurd (omega arith)
  count_none (x ∷ xs) none zero d low =
      elim (p x) as (λ t. cond {A = ℕ} t 1 0 + count_by p xs ≡ 0 → t ≡ false) [ true ↦ λ h. absurd (omega (arith, h)) | false ↦ λ h. refl ] (sym (count_by-cons p x xs) ∙ none)
  count_none (x ∷ xs) none (suc k) d low = count_none xs (omega (arith, none, count_by-cons p x xs)) k d (omega arith)

  pub count_all : (xs : List X) → All (λ x. p x ≡ true) xs → count_by p xs ≡ length xs
  count_all xs each = sym (length-filter p xs) ∙ ap length (filter_all p xs each)

  pub filter_counted : (xs : List X) (start end : ℕ) → start ≤ end → end ≤ length xs → All (λ x. p x ≡ true) (slice_range xs start end)
      → count_by p xs + start ≡ end → slice_range xs start end ≡ filter p xs
  filter_counted xs start end rise inside each count =
      let middle = slice_range xs start end in
      let behind = length-drop start xs in
      let long : length middle ≡ end - start = length-take-le (end - start) (drop start xs) (omega arith) in
      let parts = ap (count_by p) (sym (three_parts p xs start end rise)) ∙ count_by-append p (take start xs) (middle ++ drop end xs) in
      let two = count_by-append p middle (drop end xs) in
      let all = count_all middle each in
      filter_run p xs start end rise (count_none (take start xs) (omega (arith, parts, two, all, long, count))) each
      (count_none (drop end xs) (omega (arith, parts, two, all, long, count)))
