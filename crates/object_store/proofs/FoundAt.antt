-- Several prefixes that are looked up one after the other.
use Rattle.gix_hash.proofs.Std.{◌≡◌, ◌≢◌, ◌∙◌, ℕ, ◌+◌, ◌<◌, ◌≤◌, ◌⊎◌, inl, inr, List, length, get_or, sym, ap, subst, arith, AllZip, Contains, slice_set, length-set, sum_by, cases_lt, cases_order, get_or_default, get_or-set_same, get_or-set_other, get_or-le-sum_by, sum_by-set}
use Rattle.id_lookup.specs.Words.{KindDigits}
use Rattle.object_store.specs.Stores.{ArePlaces, HaveMore, IsOfOne}
use Rattle.object_store.specs.declared.error.Error.{Error}
use Rattle.object_store.specs.declared.error.Error.TheVariants.{Memory}
use Rattle.object_store.proofs.Places.{apart, at_each_place}
use Rattle.object_store.proofs.Zipped.{zipped_from}

-- what was found for a prefix has the relation to its digits
abbrev pub FindsFor : {F : Type 0} → (List ℕ → F → Type 0) → KindDigits → F → Type 0
FindsFor Finds prefix one = Finds prefix.digits one

-- what was found at a position has the relation to the digits of its prefix
abbrev pub IsFoundAt : {F : Type 0} → (List ℕ → F → Type 0) → List KindDigits → List F → ℕ → Type 0
IsFoundAt {F} Finds prefixes found k = (prefix : KindDigits) (one : F) → Finds (get_or prefixes k prefix).digits (get_or found k one)

-- results were found at the positions of the first places, and nothing yet at those of the others
pub record AreFoundAt {F : Type 0} (Finds : List ℕ → F → Type 0) (size : F → ℕ) (prefixes : List KindDigits) (places : List (ℕ × ℕ)) (n : ℕ) (found : List F) : Type 0 where
  pub long : length found ≡ length prefixes
  pub first : (j : ℕ) (p : ℕ × ℕ) → j < n → IsFoundAt Finds prefixes found (get_or places j p).1
  pub left : (j : ℕ) (p : ℕ × ℕ) → n ≤ j → j < length places → IsFoundAt (λ _ one. size one ≡ 0) prefixes found (get_or places j p).1

module _ {F : Type 0} (Finds : List ℕ → F → Type 0) (size : F → ℕ) (prefixes : List KindDigits) (places : List (ℕ × ℕ)) (are : ArePlaces (length prefixes) places) where
  -- at first nothing was found
  pub none_found : (found : List F) → length found ≡ length prefixes → sum_by size found ≡ 0 → AreFoundAt Finds size prefixes places 0 found
  none_found found long empty = record {
    long = long;
    first = λ j p low. absurd (omega (arith, low));
    left = λ j p from low prefix one.
        let within = are.in_range j p low in omega (arith, empty, get_or-le-sum_by size found (get_or places j p).1 one (omega (arith, within, long)));
  }

  -- what was found so far has the relation, and the others count as nothing
  pub some_found : (n : ℕ) (found : List F) → AreFoundAt Finds size prefixes places n found → AllZip (FindsFor (λ digits one. Finds digits one ⊎ (size one ≡ 0))) prefixes found
  some_found n found was =
      let R : List ℕ → F → Type 0 = λ digits one. Finds digits one ⊎ (size one ≡ 0) in
      zipped_from (FindsFor R) prefixes found was.long (λ k prefix one low. at_each_place (length prefixes) places are (IsFoundAt R prefixes found)
      (λ j p within prefix one. elim (cases_lt j n) [ inl less ↦ inl (was.first j p less prefix one) | inr from ↦ inr (was.left j p from within prefix one) ]) k low prefix one)

  -- one more was found
  module _ (n : ℕ) (found : List F) (was : AreFoundAt Finds size prefixes places n found) (p : ℕ × ℕ) (prefix : KindDigits) (one : F) (inside : n < length places)
      (p_is : p ≡ get_or places n p) (is : prefix ≡ get_or prefixes p.1 prefix) (finds : Finds prefix.digits one) where
    low : p.1 < length prefixes
    low = subst (λ (q : ℕ × ℕ). q.1 < length prefixes) (sym p_is) (are.in_range n p inside)

    here : IsFoundAt Finds prefixes (slice_set found p.1 one) p.1
    here q d =
        let one_is : one ≡ get_or (slice_set found p.1 one) p.1 d = sym (get_or-set_same found p.1 one d (omega (arith, low, was.long))) in
        subst (Finds (get_or prefixes p.1 q).digits) one_is (subst (λ (q : KindDigits). Finds q.digits one) (is ∙ get_or_default prefixes p.1 prefix q low) finds)

    other : (R : List ℕ → F → Type 0) (k : ℕ) → k ≢ p.1 → IsFoundAt R prefixes found k → IsFoundAt R prefixes (slice_set found p.1 one) k
    other R k apart was q d = subst (R (get_or prefixes k q).digits) (sym (get_or-set_other found p.1 k one d apart)) (was q d)

    differ : (j : ℕ) (q : ℕ × ℕ) → j < length places → j ≢ n → (get_or places j q).1 ≢ p.1
    differ j q within not_here same = by_order (cases_order j n)
      where
        is_p : (get_or places j q).1 ≡ (get_or places n q).1
        is_p = same ∙ ap (λ (r : ℕ × ℕ). r.1) (p_is ∙ get_or_default places n p q inside)

        by_order : (j ≡ n) ⊎ ((j < n) ⊎ (n < j)) → ⊥
        by_order (inl here) = not_here here
        by_order (inr (inl below)) = apart (length prefixes) places are j n q below inside is_p
        by_order (inr (inr above)) = apart (length prefixes) places are n j q above within (sym is_p)

    by : (j : ℕ) (q : ℕ × ℕ) → (j < n) ⊎ (n ≤ j) → j < n + 1 → IsFoundAt Finds prefixes (slice_set found p.1 one) (get_or places j q).1
    by j q (inl below) less = other Finds (get_or places j q).1 (differ j q (omega (arith, below, inside)) (λ e. omega (arith, e, below))) (was.first j q below)
    by j q (inr from) less =
        let last : n ≡ j = omega (arith, from, less) in
        let same : p.1 ≡ (get_or places j q).1 = ap (λ (r : ℕ × ℕ). r.1) (p_is ∙ get_or_default places n p q inside) ∙ ap (λ k. (get_or places k q).1) last in
        subst (IsFoundAt Finds prefixes (slice_set found p.1 one)) same here

    pub one_more : AreFoundAt Finds size prefixes places (n + 1) (slice_set found p.1 one)
    one_more = record {
      long = length-set found p.1 one ∙ was.long;
      first = λ j q less. by j q (cases_lt j n) less;
      left = λ j q from within. other (λ _ x. size x ≡ 0) (get_or places j q).1 (differ j q within (λ e. omega (arith, e, from))) (was.left j q (omega arith) within);
    }

    -- there was nothing yet at its position
    pub size_more : sum_by size (slice_set found p.1 one) ≡ sum_by size found + size one
    size_more =
        let nothing = subst (λ (q : ℕ × ℕ). IsFoundAt (λ _ x. size x ≡ 0) prefixes found q.1) (sym p_is) (was.left n p (omega arith) inside) prefix one in
        omega (arith, sum_by-set size found p.1 one one (omega (arith, low, was.long)), nothing)

    -- it may be more than is left
    pub have_more : (most room : ℕ) → room + sum_by size found ≡ most → room < size one → HaveMore Finds size most prefixes
    have_more most room is less = record { some = slice_set found p.1 one; each = some_found (n + 1) (slice_set found p.1 one) one_more; more = omega (arith, is, less, size_more) }

  -- at last each was found
  pub all_found : (n : ℕ) (found : List F) → length places ≤ n → AreFoundAt Finds size prefixes places n found → AllZip (FindsFor Finds) prefixes found
  all_found n found all was =
      zipped_from (FindsFor Finds) prefixes found was.long (λ k prefix one low.
      at_each_place (length prefixes) places are (IsFoundAt Finds prefixes found) (λ j p within. was.first j p (omega (arith, all, within))) k low prefix one)

-- why the look-up of one of the prefixes fails is why that of all of them fails
pub of_one : (Fails : List ℕ → Error → Type 0) (prefixes : List KindDigits) (prefix : KindDigits) (error : Error) → Contains prefixes prefix → Fails prefix.digits error
    → IsOfOne Fails prefixes error
of_one Fails prefixes prefix (Memory error) has fails = tt
of_one Fails prefixes prefix error has fails = (prefix, has, fails)
