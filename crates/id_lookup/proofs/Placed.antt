-- The place of a prefix against each member of a sorted list, by the two bounds of its run.
use Rattle.gix_hash.proofs.Std.{◌≡◌, ℕ, ◌+◌, ◌-◌, ◌≤◌, ◌<◌, ◌↔◌, Bool, true, cond, nat_eq, nat_lt, IsTrue, List, [], ◌∷◌, length, take, drop, get_or, inl, inr, refl, ap, ◌∙◌, arith, slice_range, is_gt, is_ge, is_eq, get_or-take, get_or-drop, length-take, length-drop, Ordering, Less, Equal, Greater, All, HoldsAt, count_by, starts_with, texts_ties, count_by-le-length, cases_lt, false≢true, le-ltb, lt-ltb}
use Rattle.gix_hash.specs.Words.{KindDigits, place}
use Rattle.id_lookup.specs.declared.search.Bound.{Bound}
use Rattle.id_lookup.specs.declared.search.Bound.TheVariants.{Start, End}
use Rattle.id_lookup.specs.Runs.{IsRun, IsSortedIds, begins_with, bound_of, is_before_bound, matches}
use Rattle.id_lookup.specs.declared.search.Run.{Run}
use Rattle.id_lookup.proofs.Filtering.{filter_run}
use Rattle.id_lookup.proofs.Counting.{count_by-split, passes_below}
use Rattle.id_lookup.proofs.Rising.{bound_partitions}
use Rattle.id_lookup.proofs.Spelled.{begins_with-place}

-- a place that is not Less is Greater, or Equal if the id begins with the prefix
not_less : (o : Ordering) (member : Bool) → member ≡ is_eq o → cond (is_ge o) 1 0 ≡ cond (is_gt o) 1 0 + cond member 1 0
not_less Less member e = rw e refl
not_less Equal member e = rw e refl
not_less Greater member e = rw e refl

-- the end of a run is its start and the number of its members
pub bound_of-end : (prefix : KindDigits) (ids : List (List ℕ)) → bound_of End prefix ids ≡ bound_of Start prefix ids + count_by (λ id. begins_with id prefix) ids
bound_of-end prefix ids =
    count_by-split (λ id. is_ge (place prefix.digits id)) (λ id. is_gt (place prefix.digits id)) (λ id. begins_with id prefix)
    (λ id. not_less (place prefix.digits id) (begins_with id prefix) (begins_with-place prefix id)) ids

-- the member at an index is before a bound if and only if its index is below it
pub before_bound_at : (bound : Bound) (prefix : KindDigits) (ids : List (List ℕ)) → IsSortedIds ids → (k : ℕ) → k < length ids
    → (o : Ordering) → HoldsAt (λ id. o ≡ place prefix.digits id) ids k → is_before_bound bound o ≡ nat_lt k (bound_of bound prefix ids)
before_bound_at bound prefix [] sorted k h o answer = absurd (omega arith)
before_bound_at bound prefix (id ∷ ids) sorted k h o answer =
    ap (is_before_bound bound) (answer id)
    ∙ passes_below (λ x. is_before_bound bound (place prefix.digits x)) (id ∷ ids) (bound_partitions bound prefix (id ∷ ids) sorted) k id h

-- Greater and not Less are the two tests of an order
order_is : (o : Ordering) → o ≡ cond (is_gt o) Greater (cond (is_ge o) Equal Less)
order_is Less = refl
order_is Equal = refl
order_is Greater = refl

-- the place against the member at an index between two bounds
abbrev place_at : ℕ → ℕ → ℕ → Ordering
place_at start end k = cond (nat_lt k start) Greater (cond (nat_lt k end) Equal Less)

is_equal : (start end k : ℕ) → (is_eq (place_at start end k) ≡ true) ↔ ((start ≤ k) × (k < end))
is_equal start end k = (
  λ h. elim (cases_lt k start) [
    | inl below ↦ absurd (false≢true (rw (lt-ltb k start below) at h))
    | inr above ↦ elim (cases_lt k end) [ inl within ↦ (above, within) | inr past ↦ absurd (false≢true (rw (le-ltb k start above, le-ltb k end past) at h)) ]
  ],
  λ h. rw (le-ltb k start h.0, lt-ltb k end h.1) refl,
)

-- whether an id begins with the digits of a prefix, by the place of the prefix against it
matches-place : (prefix : KindDigits) (id : List ℕ) (o : Ordering) → place prefix.digits id ≡ o → starts_with nat_eq id prefix.digits ≡ is_eq o
matches-place prefix id o is = texts_ties prefix.digits _ ∙ ap is_eq is

-- what is said of a run
module _ (prefix : KindDigits) (ids : List (List ℕ)) (sorted : IsSortedIds ids) (run : Run)
    (starts : run.start ≡ bound_of Start prefix ids) (ends : run.end ≡ run.start + count_by (λ id. begins_with id prefix) ids) where
  at_place : (k : ℕ) (d : List ℕ) → k < length ids → place prefix.digits (get_or ids k d) ≡ place_at run.start run.end k
  at_place k d h =
      let above = passes_below (λ id. is_gt (place prefix.digits id)) ids (bound_partitions Start prefix ids sorted) k d h in
      let not_below = passes_below (λ id. is_ge (place prefix.digits id)) ids (bound_partitions End prefix ids sorted) k d h in
      rw (ends, starts, ← bound_of-end prefix ids) (order_is _ ∙ (λ i. cond (above i) Greater (cond (not_below i) Equal Less)))

  run_members : (k : ℕ) → k < length ids
      → IsTrue (begins_with (get_or ids k []) prefix) ↔ ((run.start ≤ k) × (k < run.end))
  run_members k h = rw (begins_with-place prefix (get_or ids k []), at_place k [] h) (is_equal run.start run.end k)

  run_before : All (λ id. place prefix.digits id ≡ Greater) (take run.start ids)
  run_before k d h =
      let cut = length-take run.start ids in
      rw (get_or-take run.start ids k d (omega arith), at_place k d (omega arith), lt-ltb k run.start (omega arith)) refl

  run_within : All (λ id. place prefix.digits id ≡ Equal) (slice_range ids run.start run.end)
  run_within k d h =
      let cut = length-take (run.end - run.start) (drop run.start ids) in
      let left = length-drop run.start ids in
      rw (
        get_or-take (run.end - run.start) (drop run.start ids) k d (omega arith),
        get_or-drop run.start ids k d,
        at_place (run.start + k) d (omega arith),
        le-ltb (run.start + k) run.start (omega arith),
        lt-ltb (run.start + k) run.end (omega arith),
      ) refl

  run_after : All (λ id. place prefix.digits id ≡ Less) (drop run.end ids)
  run_after k d h =
      let left = length-drop run.end ids in
      rw (get_or-drop run.end ids k d, at_place (run.end + k) d (omega arith), le-ltb (run.end + k) run.start (omega arith), le-ltb (run.end + k) run.end (omega arith)) refl

  run_found : slice_range ids run.start run.end ≡ matches prefix.digits ids
  run_found = filter_run (λ id. starts_with nat_eq id prefix.digits) ids run.start run.end (omega arith)
      (λ k d h. matches-place prefix _ Greater (run_before k d h))
      (λ k d h. matches-place prefix _ Equal (run_within k d h))
      (λ k d h. matches-place prefix _ Less (run_after k d h))

-- two bounds are a run
pub run_is : (prefix : KindDigits) (ids : List (List ℕ)) → IsSortedIds ids → (run : Run)
    → run.start ≡ bound_of Start prefix ids → run.end ≡ bound_of End prefix ids → IsRun prefix ids run
run_is prefix ids sorted run starts bound =
    let ends : run.end ≡ run.start + count_by (λ id. begins_with id prefix) ids = rw (bound, starts) (bound_of-end prefix ids) in
    record {
      start = starts;
      end = ends;
      in_range = omega (arith, bound, count_by-le-length (λ id. is_ge (place prefix.digits id)) ids);
      members = run_members prefix ids sorted run starts ends;
      found = run_found prefix ids sorted run starts ends;
      before = run_before prefix ids sorted run starts ends;
      within = run_within prefix ids sorted run starts ends;
      after = run_after prefix ids sorted run starts ends;
    }
