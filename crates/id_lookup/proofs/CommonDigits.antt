-- How many first digits ids of a sorted list have in common.
use Rattle.gix_hash.proofs.Std.{◌≡◌, ℕ, ◌+◌, ◌<◌, ◌≤◌, true, false, Less, List, [], ◌∷◌, length, take, drop, cond, nat_eq, inl, inr, refl, sym, ap, ◌∙◌, subst, take_all, arith, true≢false, nat_cmp, is_lt, length-take-le, take-append-drop, take-take, starts_with, bytes_decides, slice_cmp, cases_lt, false_from_ne_true, nat_tests, nat_eq_equiv, nat_list_cmp_total, tied_itself}
pub use Rattle.gix_hash.proofs.CommonBeginnings.{common}
use Rattle.gix_hash.proofs.CommonBeginnings.{begins_both, take-common}
use Rattle.id_lookup.proofs.Spelled.{starts_with-BeginsWith}

pub cond_yes : (a b n : ℕ) → a ≡ b → cond (nat_eq a b) n 0 ≡ n
cond_yes a b n h = grind (arith, nat_tests)

-- if x, y and z are in order, x has no more in common with z than with y, nor than y has with z
pub common-between : (x y z : List ℕ) → is_lt (slice_cmp nat_cmp y x) ≡ false → is_lt (slice_cmp nat_cmp z y) ≡ false
    → (common x z ≤ common x y) × (common x z ≤ common y z)
common-between [] y z h g = (omega arith, omega arith)
common-between (a ∷ xs) [] z h g = absurd (true≢false h)
common-between (a ∷ xs) (b ∷ ys) [] h g = (omega arith, omega arith)
common-between (a ∷ xs) (b ∷ ys) (c ∷ zs) h g =
    let rest : is_lt (slice_cmp nat_cmp ys xs) ≡ false → is_lt (slice_cmp nat_cmp zs ys) ≡ false → (common xs zs ≤ common xs ys) × (common xs zs ≤ common ys zs) =
    common-between xs ys zs in
    (grind (arith, nat_tests, rest), grind (arith, nat_tests, rest))

-- a list begins with another's first n digits if and only if n are common
pub begins-common : (n : ℕ) (x y : List ℕ) → n ≤ length x → n ≤ common x y → starts_with nat_eq y (take n x) ≡ true
begins-common n x y within few =
    let same : take n x ≡ take n y = sym (take-take n (common x y) x few) ∙ ap (take n) (take-common x y) ∙ take-take n (common x y) y few in
    (bytes_decides (take n x) (take (length (take n x)) y)).1 (same ∙ ap (λ k. take k y) (sym (length-take-le n x within)))

pub begins-apart : (n : ℕ) (x y : List ℕ) → n ≤ length x → common x y < n → starts_with nat_eq y (take n x) ≡ false
begins-apart n x y within many = false_from_ne_true _ (λ begins.
    let shared = begins_both x y (take n x) (drop n x, sym (take-append-drop n x)) ((starts_with-BeginsWith y (take n x)).0 begins) in
    omega (arith, length-take-le n x within))

-- two lists of one length, of which one is below the other, differ somewhere
pub common-differ : (x y : List ℕ) → length x ≡ length y → slice_cmp nat_cmp x y ≡ Less → common x y < length x
common-differ x y same less = elim (cases_lt (common x y) (length x)) [
  | inl few ↦ few
  | inr all ↦
      let equal : x ≡ y = sym (take_all (common x y) x all) ∙ take-common x y ∙ take_all (common x y) y (omega arith) in
      let below : slice_cmp nat_cmp y y ≡ Less = subst (λ (xs : List ℕ). slice_cmp nat_cmp xs y ≡ Less) equal less in
      let tied = tied_itself nat_list_cmp_total y in cc
]

pub common-symm : (x y : List ℕ) → common x y ≡ common y x
common-symm [] [] = refl
common-symm [] (b ∷ ys) = refl
common-symm (a ∷ xs) [] = refl
common-symm (a ∷ xs) (b ∷ ys) = λ i. cond (nat_eq_equiv.symm a b i) (1 + common-symm xs ys i) 0
