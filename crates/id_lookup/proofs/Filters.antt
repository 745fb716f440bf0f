-- What a filter keeps.
use Rattle.gix_hash.proofs.Std.{◌≡◌, zero, suc, Bool, true, false, cond, List, [], ◌∷◌, ◌++◌, filter, inl, inr, refl, sym, ap, ◌∙◌, arith, Contains, flat_map, cases_Bool, false≢true, false_from_ne_true, All-contains, All-contains_itself, All-filter, filter_passes, filter-append}

module _ {X : Type 0} (p : X → Bool) where
  -- what passes is kept
  pub contains_kept : (xs : List X) (x : X) → Contains xs x → p x ≡ true → Contains (filter p xs) x
  contains_kept [] x c passes = let none = c.1 in absurd (omega arith)
  contains_kept (y ∷ ys) x (zero, within, is) passes = rw (ap p is ∙ passes) (zero, omega arith, is)
  contains_kept (y ∷ ys) x (suc k, within, is) passes =
      let rest : Contains (filter p ys) x = contains_kept ys x (k, omega arith, is) passes in
      elim (p y) as (λ t. Contains (cond t (y ∷ filter p ys) (filter p ys)) x) [
        | true ↦ (suc rest.0, omega (arith, rest.1), rest.2)
        | false ↦ rest
      ]

  -- nothing else is
  pub contains_had : (xs : List X) (x : X) → Contains (filter p xs) x → Contains xs x
  contains_had xs x c = All-contains (Contains xs) (filter p xs) x (All-filter p (Contains xs) xs (All-contains_itself xs)) c

  pub kept_passes : (xs : List X) (x : X) → Contains (filter p xs) x → p x ≡ true
  kept_passes xs x c = All-contains (λ y. p y ≡ true) (filter p xs) x (filter_passes p xs) c

  -- a filter of several lists, one after the other
  pub filter-flat : (lists : List (List X)) → filter p (flat_map (λ list. list) lists) ≡ flat_map (filter p) lists
  filter-flat [] = refl
  filter-flat (list ∷ lists) =
      filter-append p list (flat_map (λ list. list) lists) ∙ ap (λ (rest : List X). filter p list ++ rest) (filter-flat lists)

-- where a second test passes less, the first need not be made
pub filter_within : {X : Type 0} (p q : X → Bool) → ((x : X) → q x ≡ true → p x ≡ true) → (xs : List X) → filter q (filter p xs) ≡ filter q xs
filter_within p q less [] = refl
filter_within p q less (x ∷ xs) = elim (cases_Bool (p x)) [
  | inl here ↦ rw (here, filter_within p q less xs) refl
  | inr other ↦ rw (other, false_from_ne_true (q x) (λ passes. false≢true (sym other ∙ less x passes)), filter_within p q less xs) refl
]
