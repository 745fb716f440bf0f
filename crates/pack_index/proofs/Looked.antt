-- Where an id is among ids of its kind, by the run of all its digits.
use Rattle.gix_hash.proofs.Std.{◌≡◌, ◌≢◌, ℕ, ◌-◌, ◌<◌, ◌≤◌, true, false, not, nat_eq, Option, None, Some, List, [], length, get_or, take, inl, inr, refl, sym, ap, subst, ◌∙◌, arith, append-nil, ◌↔◌, IfSome, IsTrue, take_all, take_at, slice_cmp, Contains, is_lt, nat_cmp, ordering_reverse, Ordering, Equal, Greater, Less, cases_lt, false≢true, nat_list_cmp_total, get_or_default, ranks_by, sorted_far}
use Rattle.std.specs.FinMap.{nat_cmp-IsAntisymmetric, slice_cmp-IsAntisymmetric}
use Rattle.id_lookup.specs.Words.{BeginsWith, IsRun, IsSortedIds, Kind, KindDigits, begins_with, hex_len_of, number_of}
use Rattle.id_lookup.specs.declared.search.Run.{Run}
use Rattle.id_lookup.proofs.Indexes.{not_other, same_kind}
use Rattle.pack_index.specs.Format.{IsFirstIndexOf}

module _ (prefix : KindDigits) (names : List (List ℕ)) (run : Run) (is : IsRun prefix names run)
    (begins : (id : List ℕ) → IsTrue (begins_with id prefix) ↔ BeginsWith id prefix.digits)
    (long : (k : ℕ) → k < length names → length (get_or names k []) ≡ length prefix.digits) where
  -- the ids of the run are the id
  same_within : (k : ℕ) → k < length names → run.start ≤ k → k < run.end → get_or names k [] ≡ prefix.digits
  same_within k inside low high =
      let id = get_or names k [] in
      let n = length prefix.digits in
      let split = (begins id).0 ((is.members k inside).1 (low, high)) in
      sym (take_all n id (omega (arith, long k inside))) ∙ ap (take n) split.1 ∙ take_at prefix.digits split.0 n refl

  -- and no others are
  within_same : (k : ℕ) → k < length names → get_or names k [] ≡ prefix.digits → (run.start ≤ k) × (k < run.end)
  within_same k inside same =
      (is.members k inside).0 ((begins (get_or names k [])).1 ([], same ∙ sym (append-nil prefix.digits)))

  pub present : run.start ≢ run.end → IsFirstIndexOf names prefix.digits run.start
  present some =
      let end = is.end in
      let reach = is.in_range in
      let inside : run.start < length names = omega (arith, end, reach, some) in
      record {
        in_range = inside;
        same = same_within run.start inside (omega arith) (omega (arith, end, some));
        first = λ k low same. let here = within_same k (omega (arith, low, inside)) same in omega (arith, here.0, low);
      }

  pub found_first : Contains names prefix.digits → IsFirstIndexOf names prefix.digits run.start
  found_first there =
      let same : get_or names there.0 [] ≡ prefix.digits = get_or_default names there.0 [] prefix.digits there.1 ∙ there.2 in
      let here = within_same there.0 there.1 same in
      present (λ empty. omega (arith, empty, here.0, here.1))

-- two ids of which neither is below the other are the same
neither_below : (a b : List ℕ) → is_lt (slice_cmp nat_cmp a b) ≡ false → is_lt (slice_cmp nat_cmp b a) ≡ false → a ≡ b
neither_below a b one other =
    slice_cmp-IsAntisymmetric nat_cmp-IsAntisymmetric a b (level (slice_cmp nat_cmp a b) (slice_cmp nat_cmp b a) (nat_list_cmp_total.antisymm a b) one other)
  where
    level : (o p : Ordering) → o ≡ ordering_reverse p → is_lt o ≡ false → is_lt p ≡ false → o ≡ Equal
    level Less p is one other = cc
    level Equal p is one other = refl
    level Greater Less is one other = cc
    level Greater Equal is one other = cc
    level Greater Greater is one other = cc

-- an id that is in a sorted list is first at a position, if the id before that is below it, and the one there is not
pub first_between : (names : List (List ℕ)) (id : List ℕ) (at : ℕ) → IsSortedIds names → at ≤ length names
    → (0 < at → is_lt (slice_cmp nat_cmp (get_or names (at - 1) []) id) ≡ true)
    → (at < length names → is_lt (slice_cmp nat_cmp (get_or names at []) id) ≡ false)
    → Contains names id → IsFirstIndexOf names id at
first_between names id at sorted reach below above there =
    let ordered = sorted_far (λ a b. is_lt (slice_cmp nat_cmp a b)) (ranks_by nat_list_cmp_total (λ (id : List ℕ). id)) names sorted in
    let k = there.0 in
    let inside : k < length names = there.1 in
    let same : get_or names k [] ≡ id = get_or_default names k [] id inside ∙ there.2 in
    let before : (j : ℕ) → j < at → get_or names j [] ≢ id =
    λ j low is.
    false≢true (sym (subst (λ x. is_lt (slice_cmp nat_cmp (get_or names (at - 1) []) x) ≡ false) is (ordered j (at - 1) [] (omega arith) (omega arith)))
    ∙ below (omega arith)) in
    elim (cases_lt k at) [
      | inl low ↦ absurd (before k low same)
      | inr high ↦
          let within : at < length names = omega arith in
          record {
            in_range = within;
            same = neither_below (get_or names at []) id (above within)
                (subst (λ x. is_lt (slice_cmp nat_cmp x (get_or names at [])) ≡ false) same (ordered at k [] high inside));
            first = before;
          }
    ]

-- kinds that a test finds different have different numbers of digits
pub kinds_differ : (a b : Kind) → not (nat_eq (number_of a) (number_of b)) ≡ true → hex_len_of a ≢ hex_len_of b
kinds_differ a b other same = false≢true (sym (not_other a b (same_kind a b same)) ∙ other)

-- the beginning of an id is of the kind of its digits
pub named_kind : (kind : Kind) (names : List (List ℕ)) (at : ℕ) (answer : Option KindDigits) → length (get_or names at []) ≡ hex_len_of kind
    → IfSome answer (λ name. hex_len_of name.kind ≡ length (get_or names at [])) → IfSome answer (λ name. name.kind ≡ kind)
named_kind kind names at None long is = is
named_kind kind names at (Some name) long is = same_kind name.kind kind (is ∙ long)
