-- Indexes are sorted, so a prefix of their kind can be looked up in them.
use Rattle.gix_hash.proofs.Std.{◌≡◌, ℕ, not, nat_eq, ◌+◌, ◌-◌, ◌<◌, ◌≤◌, true, false, List, [], length, get_or, Bool, ◌↔◌, IsTrue, ◌⊎◌, inl, inr, sym, ap, ◌∙◌, subst, arith, AllPairs, IsStrictlySortedBy, nat_cmp, is_lt, ordering_reverse, slice_cmp, Less, cases_lt, false≢true, nat_tests, nat_list_cmp_total, get_or_default, AllWithin-more, Less-from_sorted, sorted_from_all_adjacent}
pub use Rattle.gix_hash.proofs.KindFacts.{same_kind}
use Rattle.gix_hash.specs.Words.{KindDigits, hex_len_of, kind_by_number, number_of}
use Rattle.gix_hash.specs.declared.Kind.{Kind}
use Rattle.id_lookup.proofs.Ordered.{adjacent_more}
use Rattle.id_lookup.specs.Runs.{CanProbe, IsRun, IsSortedIds}
use Rattle.id_lookup.specs.declared.search.Run.{Run}
use Rattle.id_lookup.specs.declared.index.IndexError.{IndexError}
use Rattle.id_lookup.specs.declared.index.IndexError.TheVariants.{WrongKind, NotRising}
use Rattle.id_lookup.specs.Indexes.{IsIndex, IsIndexUpTo, IsWrongKind, IsNotRising, IsFirstIndexError}

-- an index is sorted
pub index-sorted : (kind : Kind) (ids : List (List ℕ)) → IsIndex kind ids → IsSortedIds ids
index-sorted kind ids index k d low high =
    ap is_lt (nat_list_cmp_total.antisymm (get_or ids (k + 1) d) (get_or ids k d) ∙ ap ordering_reverse (index.rises k d high))

-- and strictly so: each id is above all before it
pub index-strict : (kind : Kind) (ids : List (List ℕ)) → IsIndex kind ids → IsStrictlySortedBy (slice_cmp nat_cmp) ids
index-strict kind ids index = sorted_from_all_adjacent nat_list_cmp_total ids [] (λ k high. index.rises k [] high)

pub index-pairs : (kind : Kind) (ids : List (List ℕ)) → IsIndex kind ids → AllPairs (λ a b. slice_cmp nat_cmp a b ≡ Less) ids
index-pairs kind ids index i j d low high = Less-from_sorted (slice_cmp nat_cmp) ids i j d (index-strict kind ids index) low high

-- one id more, of the kind and above the previous one
pub index_more : (kind : Kind) (ids : List (List ℕ)) (at : ℕ) → IsIndexUpTo at kind ids → at < length ids → length (get_or ids at []) ≡ hex_len_of kind
    → (0 < at → slice_cmp nat_cmp (get_or ids (at - 1) []) (get_or ids at []) ≡ Less) → IsIndexUpTo (at + 1) kind ids
index_more kind ids at before inside long above = record {
  kinds = AllWithin-more (λ (id : List ℕ). length id ≡ hex_len_of kind) ids 0 at before.kinds (λ d. ap length (get_or_default ids at d [] inside) ∙ long);
  rises = adjacent_more (λ a b. slice_cmp nat_cmp a b ≡ Less) ids at inside before.rises above;
}

-- a prefix of the index's kind can be looked up
pub index-can_probe : (kind : Kind) (ids : List (List ℕ)) (prefix : KindDigits) → IsIndex kind ids → length prefix.digits ≤ hex_len_of kind → CanProbe prefix ids
index-can_probe kind ids prefix index fits = record {
  sorted = index-sorted kind ids index;
  enough_digits = λ k d inside. omega (arith, fits, index.kinds k d (omega arith) inside);
}

-- the test for different kinds fails for one kind, and for no two
pub not_other : (a b : Kind) → a ≡ b → not (nat_eq (number_of a) (number_of b)) ≡ false
not_other a b same = grind (arith, nat_tests)

pub no_other : (a b : Kind) → not (nat_eq (number_of a) (number_of b)) ≡ false → a ≡ b
no_other a b same = kind_by_number a b (grind (arith, nat_tests))

-- an id of another kind is wrong there
pub wrong_there : (kind other : Kind) (ids : List (List ℕ)) (at : ℕ) → at < length ids → IsIndexUpTo at kind ids → length (get_or ids at []) ≡ hex_len_of other
    → not (nat_eq (number_of other) (number_of kind)) ≡ true → IsWrongKind kind ids at
wrong_there kind other ids at inside before long differ = record {
  in_range = inside;
  before = before;
  wrong = λ right. false≢true (sym (not_other other kind (same_kind other kind (sym long ∙ right))) ∙ differ);
}

-- an id of the kind that is not above the previous one does not rise there
pub not_rising : (kind : Kind) (ids : List (List ℕ)) (at : ℕ) (above : Bool) → at < length ids → IsIndexUpTo at kind ids → length (get_or ids at []) ≡ hex_len_of kind
    → (IsTrue above ↔ (0 < at → slice_cmp nat_cmp (get_or ids (at - 1) []) (get_or ids at []) ≡ Less)) → above ≡ false → IsNotRising kind ids at
not_rising kind ids at above inside before long decides fails = record {
  has_predecessor = first (cases_lt 0 at);
  in_range = inside;
  before = before;
  same_kind = long;
  not_above = λ less. false≢true (sym fails ∙ decides.1 (λ _. less));
}
  where
    first : ((0 < at) ⊎ (at ≤ 0)) → 0 < at
    first (inl after) = after
    first (inr none) = absurd (false≢true (sym fails ∙ decides.1 (λ after. absurd (omega (arith, none, after)))))

-- a list with an error is no index
pub no_index : (kind : Kind) (ids : List (List ℕ)) (error : IndexError) → IsFirstIndexError kind ids error → IsIndex kind ids → ⊥
no_index kind ids (WrongKind at) found index = found.wrong (index.kinds at [] (omega arith) found.in_range)
no_index kind ids (NotRising at) found index =
    let next : at - 1 + 1 ≡ at = omega (arith, found.has_predecessor) in
    found.not_above (subst (λ (n : ℕ). slice_cmp nat_cmp (get_or ids (at - 1) []) (get_or ids n []) ≡ Less) next (index.rises (at - 1) [] (omega (arith, found.has_predecessor, found.in_range))))

-- a run with its end replaced by an equal one
pub run_ending : (prefix : KindDigits) (ids : List (List ℕ)) (run : Run) (end : ℕ) → IsRun prefix ids run → run.end ≡ end
    → IsRun prefix ids (record { start = run.start; end = end })
run_ending prefix ids run end is ends = subst (λ (n : ℕ). IsRun prefix ids (record { start = run.start; end = n })) ends is
