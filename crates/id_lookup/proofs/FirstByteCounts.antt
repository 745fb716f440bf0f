-- Counts of ids by their first byte, and the run of a prefix between two of them.
use Rattle.gix_hash.proofs.Std.{◌≡◌, ◌≢◌, ℕ, ◌+◌, ◌-◌, ◌<◌, ◌≤◌, Bool, true, false, cond, ltb, leb, nat_eq, List, [], ◌∷◌, length, get_or, set, get_or-set_other, get_or-set_same, below_more, take, inl, inr, refl, sym, ap, ◌∙◌, arith, All, count_by, is_gt, is_ge, cases_eq, eq-eqb, false≢true, le-leb, le-ltb, leb-true, lt-ltb, ltb-true, ne_eqb, nat_tests, count_by-le-length, count_by_more_no, count_by_more_yes, All-head, All-tail}
use Rattle.gix_hash.specs.Words.{KindDigits, first_byte_of, place}
use Rattle.id_lookup.specs.Runs.{AreCandidates, CanProbe, bound_of, has_first_byte, is_before_bound, is_below, is_up_to}
use Rattle.id_lookup.specs.declared.search.Bound.TheVariants.{Start, End}
use Rattle.id_lookup.specs.declared.search.Run.{Run}
use Rattle.id_lookup.proofs.Counting.{count_by-cons, count_by-split, count_zero}
use Rattle.id_lookup.proofs.FirstByteOrder.{AreDigits, are_digits, by_bytes, last_byte_of, last_byte_of-first}

-- a test that passes wherever another does counts no less
pub count_by-le : {X : Type 0} (p q : X → Bool) (xs : List X) → All (λ x. p x ≡ true → q x ≡ true) xs → count_by p xs ≤ count_by q xs
count_by-le p q [] more = omega arith
count_by-le {X} p q (x ∷ xs) more =
    let P : X → Type 0 = λ y. p y ≡ true → q y ≡ true in
    let rest : count_by p xs ≤ count_by q xs = count_by-le p q xs (All-tail P x xs more) in
    let one : cond (p x) 1 0 ≤ cond (q x) 1 0 = at_most (p x) (q x) (All-head P x xs more) in
    omega (arith, rest, one, count_by-cons p x xs, count_by-cons q x xs)
  where
    at_most : (a b : Bool) → (a ≡ true → b ≡ true) → cond a 1 0 ≤ cond b 1 0
    at_most true b h = rw (h (λ i. true)) (omega arith)
    at_most false true h = omega arith
    at_most false false h = omega arith

-- none is below the first byte of all
pub count_by-below_0 : (ids : List (List ℕ)) → count_by (is_below 0) ids ≡ 0
count_by-below_0 ids = count_zero (is_below 0) ids (λ k d inside. le-ltb (first_byte_of (get_or ids k d)) 0 (omega arith))

-- those up to a byte are those below it and those that have it
pub count_by-up_to : (b : ℕ) (ids : List (List ℕ)) → count_by (is_up_to b) ids ≡ count_by (is_below b) ids + count_by (has_first_byte b) ids
count_by-up_to b = count_by-split (is_up_to b) (is_below b) (has_first_byte b) (λ id. split (first_byte_of id) b)
  where
    split : (n m : ℕ) → cond {A = ℕ} (leb n m) 1 0 ≡ cond (ltb n m) 1 0 + cond (nat_eq n m) 1 0
    split n m = grind (arith, nat_tests)

-- or those that have it and those up to the byte before it
pub up_to_step : (b : ℕ) (ids : List (List ℕ)) → 0 < b → count_by (is_up_to b) ids ≡ count_by (has_first_byte b) ids + count_by (is_up_to (b - 1)) ids
up_to_step b ids some = count_by-split (is_up_to b) (has_first_byte b) (is_up_to (b - 1)) (λ id. step (first_byte_of id) b some) ids
  where
    step : (n m : ℕ) → 0 < m → cond {A = ℕ} (leb n m) 1 0 ≡ cond (nat_eq n m) 1 0 + cond (leb n (m - 1)) 1 0
    step n m some = grind (arith, nat_tests)

-- a step of the running sum
pub running : (counts : List ℕ) (ids : List (List ℕ)) (i : ℕ) → length counts ≡ 256 → 0 < i → i < 256
    → ((b : ℕ) → b < i → get_or counts b 0 ≡ count_by (is_up_to b) ids) → get_or counts i 0 ≡ count_by (has_first_byte i) ids
    → (b : ℕ) → b < i + 1 → get_or (set counts i (get_or counts i 0 + get_or counts (i - 1) 0)) b 0 ≡ count_by (is_up_to b) ids
running counts ids i len some inside done here =
    let old : (b : ℕ) → b < i → get_or (set counts i (get_or counts i 0 + get_or counts (i - 1) 0)) b 0 ≡ count_by (is_up_to b) ids =
    λ b l. let ne : b ≢ i = omega arith in rw get_or-set_other (done b l) in
    let lt : i < length counts = omega arith in
    below_more _ _ old (rw get_or-set_same (omega (arith, here, done (i - 1) (omega arith), up_to_step i ids some)))

-- one id more counts for its own first byte
pub one_more : (counts : List ℕ) (ids : List (List ℕ)) (i byte : ℕ) → length counts ≡ 256 → i < length ids → byte < 256
    → byte ≡ first_byte_of (get_or ids i [])
    → ((b : ℕ) → b < 256 → get_or counts b 0 ≡ count_by (has_first_byte b) (take i ids))
    → (b : ℕ) → b < 256 → get_or (set counts byte (get_or counts byte 0 + 1)) b 0 ≡ count_by (has_first_byte b) (take (i + 1) ids)
one_more counts ids i byte len within small is counted b below = elim (cases_eq b byte) [
  | inl same ↦
      let lt : byte < length counts = omega arith in
      let here : get_or (set counts byte (get_or counts byte 0 + 1)) b 0 ≡ get_or counts byte 0 + 1 = rw (same, get_or-set_same) refl in
      omega (arith, here, ap (λ n. get_or counts n 0) same, counted b below, count_by_more_yes (has_first_byte b) ids i [] within (eq-eqb _ b (sym (same ∙ is))))
  | inr other ↦
      rw get_or-set_other (counted b below ∙ sym (count_by_more_no (has_first_byte b) ids i [] within (ne_eqb _ b (λ e. other (sym (is ∙ e))))))
]

module _ (prefix : KindDigits) (ids : List (List ℕ)) (can : CanProbe prefix ids) (small : AreDigits prefix.digits) (each : All (λ id. All (λ d. d < 16) id) ids) where
  -- both bounds of the run are between the ids below the prefix's first byte and those up to its last
  start_above : count_by (is_below (first_byte_of prefix.digits)) ids ≤ bound_of Start prefix ids
  start_above = count_by-le (is_below (first_byte_of prefix.digits)) (λ id. is_before_bound Start (place prefix.digits id)) ids
      (λ k d h lower. by_bytes prefix.digits (get_or ids k d) (λ o. is_gt o ≡ true) (can.enough_digits k d h) small (are_digits _ (each k d h))
      (λ _ _. refl) (λ o tie up most. absurd (omega (arith, ltb-true _ _ lower))) (λ up more. absurd (omega (arith, ltb-true _ _ lower))))

  end_below : bound_of End prefix ids ≤ count_by (is_up_to (last_byte_of prefix.digits)) ids
  end_below = count_by-le (λ id. is_before_bound End (place prefix.digits id)) (is_up_to (last_byte_of prefix.digits)) ids
      (λ k d h. by_bytes prefix.digits (get_or ids k d) (λ o. is_ge o ≡ true → is_up_to (last_byte_of prefix.digits) (get_or ids k d) ≡ true)
      (can.enough_digits k d h) small (are_digits _ (each k d h))
      (λ low most _. le-leb _ _ most) (λ o tie up most _. le-leb _ _ most) (λ up more before. absurd (false≢true before)))

  -- and below two digits they are these
  start_below : length prefix.digits < 2 → bound_of Start prefix ids ≤ count_by (is_below (first_byte_of prefix.digits)) ids
  start_below short = count_by-le (λ id. is_before_bound Start (place prefix.digits id)) (is_below (first_byte_of prefix.digits)) ids
      (λ k d h. by_bytes prefix.digits (get_or ids k d) (λ o. is_gt o ≡ true → is_below (first_byte_of prefix.digits) (get_or ids k d) ≡ true)
      (can.enough_digits k d h) small (are_digits _ (each k d h))
      (λ low most _. lt-ltb _ _ low) (λ o tie up most after. absurd (false≢true (sym (ap is_gt (tie short)) ∙ after))) (λ up more after. absurd (false≢true after)))

  end_above : length prefix.digits < 2 → count_by (is_up_to (last_byte_of prefix.digits)) ids ≤ bound_of End prefix ids
  end_above short = count_by-le (is_up_to (last_byte_of prefix.digits)) (λ id. is_before_bound End (place prefix.digits id)) ids
      (λ k d h lower. by_bytes prefix.digits (get_or ids k d) (λ o. is_ge o ≡ true) (can.enough_digits k d h) small (are_digits _ (each k d h))
      (λ _ _. refl) (λ o tie up most. ap is_ge (tie short)) (λ up more. absurd (omega (arith, leb-true _ _ lower))))

  -- so they are the candidates
  pub are_candidates : (part : Run) → part.start ≡ count_by (is_below (first_byte_of prefix.digits)) ids
      → part.end ≡ count_by (is_up_to (last_byte_of prefix.digits)) ids → AreCandidates prefix ids part
  are_candidates part starts ends = record {
    above = omega (arith, starts, start_above);
    below = omega (arith, ends, end_below);
    in_range = omega (arith, ends, count_by-le-length (is_up_to (last_byte_of prefix.digits)) ids);
    start = λ short. omega (arith, starts, start_above, start_below short);
    end = λ short. omega (arith, ends, end_below, end_above short);
    count = λ long.
        let same = last_byte_of-first prefix.digits long in
        omega (arith, starts, ends ∙ ap (λ b. count_by (is_up_to b) ids) same, count_by-up_to (first_byte_of prefix.digits) ids);
  }
