-- Prefixes of ids, and what two prefixes match.
use Rattle.id_digits.proofs.Std.{◌≡◌, ℕ, ◌≤◌, ◌⊎◌, inl, inr, List, ◌++◌, length, take, drop, refl, sym, ap, ◌∙◌, arith, Equal, nat_eq, bytes_decides, pointwise, cases_Bool, cases_lt, false≢true, tied_itself, nat_list_cmp_total, take_at, take-append-drop, take-append-le}
use Rattle.std.proofs.lemmas.Map.Lookups.{exact_bytes}
use Rattle.id_digits.specs.Digits.{place}
use Rattle.gix_hash.specs.Prefixes.{BeginsWith}

-- the first digits of what begins with others
first_from_begins : (p c : List ℕ) → BeginsWith c p → take (length p) c ≡ p
first_from_begins p c h = ap (take (length p)) h.1 ∙ take_at p h.0 (length p) refl

BeginsWith-first : (p c : List ℕ) → p ≡ take (length p) c → BeginsWith c p
BeginsWith-first p c h = (drop (length p) c, sym (take-append-drop (length p) c) ∙ ap (λ (xs : List ℕ). xs ++ drop (length p) c) (sym h))

pub begins_from_place : (p c : List ℕ) → place p c ≡ Equal → BeginsWith c p
begins_from_place p c h = BeginsWith-first p c (exact_bytes p (take (length p) c) h)

pub place_from_begins : (p c : List ℕ) → BeginsWith c p → place p c ≡ Equal
place_from_begins p c h = rw (first_from_begins p c h) (tied_itself nat_list_cmp_total p)

-- of two prefixes the longer begins with the shorter, or nothing begins with both
nested : (p q : List ℕ) → length p ≤ length q
    → ((id : List ℕ) → BeginsWith id q → BeginsWith id p) ⊎ ((id : List ℕ) → ¬ (BeginsWith id p × BeginsWith id q))
nested p q within = elim (cases_Bool (pointwise nat_eq p (take (length p) q))) [
  | inl same ↦ inl (λ id b. BeginsWith-first p id ((bytes_decides p (take (length p) q)).0 same ∙ sym (shared id b)))
  | inr other ↦ inr (λ id b. false≢true (sym other ∙ (bytes_decides p (take (length p) q)).1 (sym (first_from_begins p id b.0) ∙ shared id b.1)))
]
  where
    -- the first digits of what begins with the longer
    shared : (id : List ℕ) → BeginsWith id q → take (length p) id ≡ take (length p) q
    shared id b = ap (take (length p)) b.1 ∙ take-append-le (length p) q b.0 within

-- what two prefixes match is nested or disjoint
pub nested_either : (p q : List ℕ)
    → ((id : List ℕ) → BeginsWith id p → BeginsWith id q) ⊎ ((id : List ℕ) → BeginsWith id q → BeginsWith id p)
    ⊎ ((id : List ℕ) → ¬ (BeginsWith id p × BeginsWith id q))
nested_either p q =
    elim (cases_lt (length p) (length q)) [
      | inl less ↦ elim (nested p q (omega arith)) [ inl h ↦ inr (inl h) | inr h ↦ inr (inr h) ]
      | inr more ↦ elim (nested q p more) [ inl h ↦ inl h | inr h ↦ inr (inr (λ id b. h id (b.1, b.0))) ]
    ]
