-- The prefixes that two lists have in common: as long as the digits that they share, and no longer.
use Rattle.id_digits.proofs.Std.{◌≡◌, ℕ, suc, ◌+◌, ◌≤◌, Bool, true, false, cond, nat_eq, List, [], ◌∷◌, ◌++◌, length, take, drop, refl, sym, ap, ◌∙◌, arith, eqb-true, take-append-drop, length-take-le, common_prefix_len, nat_tests, common_prefix_len-le}
pub use Rattle.id_digits.proofs.DigitOrder.{take_less}
use Rattle.gix_hash.specs.Prefixes.{BeginsWith, IsCommonLen}

abbrev pub common : List ℕ → List ℕ → ℕ
common = common_prefix_len nat_eq

-- two lists have the same first digits, as many as they share
pub take-common : (xs ys : List ℕ) → take (common xs ys) xs ≡ take (common xs ys) ys
take-common [] ys = refl
take-common (x ∷ xs) [] = refl
take-common (x ∷ xs) (y ∷ ys) = by (nat_eq x y) refl (take-common xs ys)
  where
    by : (b : Bool) → nat_eq x y ≡ b → take (common xs ys) xs ≡ take (common xs ys) ys
        → take (cond b (1 + common xs ys) 0) (x ∷ xs) ≡ take (cond b (1 + common xs ys) 0) (y ∷ ys)
    by true e rest = let one : 1 + common xs ys ≡ suc (common xs ys) = omega arith in rw one (λ i. eqb-true x y e i ∷ rest i)
    by false e rest = refl

-- and no longer one
common-appended : (digits xs ys : List ℕ) → length digits ≤ common (digits ++ xs) (digits ++ ys)
common-appended [] xs ys = omega arith
common-appended (d ∷ digits) xs ys =
    let more = common-appended digits xs ys in
    grind (arith, nat_tests, more)

pub begins_both : (xs ys digits : List ℕ) → BeginsWith xs digits → BeginsWith ys digits → length digits ≤ common xs ys
begins_both xs ys digits first second = rw (first.1, second.1) (common-appended digits first.0 second.0)

-- the number of shared digits, in terms of prefixes
pub longest_common : (xs ys : List ℕ) (n : ℕ) → n ≡ common xs ys → IsCommonLen xs ys n
longest_common xs ys n is =
    let fits = common_prefix_len-le nat_eq xs ys in
    let front = take (common xs ys) xs in
    record {
      shared = (
        front,
        length-take-le (common xs ys) xs fits.0 ∙ sym is,
        (drop (common xs ys) xs, sym (take-append-drop (common xs ys) xs)),
        (drop (common xs ys) ys, sym (ap (λ (first : List ℕ). first ++ drop (common xs ys) ys) (take-common xs ys) ∙ take-append-drop (common xs ys) ys)),
      );
      longest = λ digits first second. rw is (begins_both xs ys digits first second);
    }
