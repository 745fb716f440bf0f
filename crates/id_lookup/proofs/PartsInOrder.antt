-- In a sorted list the ids with a first byte are a run, and the parts one after the other are the list.
use Rattle.gix_hash.proofs.Std.{◌≡◌, ℕ, zero, suc, ◌+◌, ◌-◌, ◌<◌, ◌≤◌, true, false, ltb, leb, List, [], ◌∷◌, ◌++◌, length, get_or, slice_index, take, drop, sym, ap, ◌∙◌, subst, take-add, take_all, arith, true≢false, length-drop, slice_range, nat_cmp, is_lt, eq-eqb, le-ltb, leb-true, lt-ltb, ltb-false, ltb-true, drop-drop, get_or-take, get_or-drop, length-take-le, All, count_by, flat_map, range_with_len, IsNonDecreasingBy, slice_cmp, nat_tests, IsPartitionedBy-leb, IsPartitionedBy-ltb, count_by-le-length}
use Rattle.gix_hash.specs.Words.{first_byte_of}
use Rattle.id_lookup.specs.Runs.{IsSortedIds, has_first_byte, is_below, is_up_to}
use Rattle.id_lookup.proofs.Counting.{passes_below}
use Rattle.id_lookup.proofs.FirstByteCounts.{count_by-below_0, count_by-le, count_by-up_to}
use Rattle.id_lookup.proofs.Ordered.{sorted-in_order}
use Rattle.id_lookup.specs.Indexes.{part_of}
use Rattle.id_lookup.proofs.FilterCounted.{count_all, filter_counted}

-- the first byte does not fall where the id does not, if second digits are below 16
second-up : (xs ys : List ℕ) → is_lt (slice_cmp nat_cmp ys xs) ≡ false → slice_index xs 0 ≤ slice_index ys 0
second-up [] ys h = omega arith
second-up (x ∷ xs) [] h = absurd (true≢false h)
second-up (x ∷ xs) (y ∷ ys) h =
    grind (arith, nat_tests)

first_byte-up : (x y : List ℕ) → slice_index x 1 < 16 → is_lt (slice_cmp nat_cmp y x) ≡ false → first_byte_of x ≤ first_byte_of y
first_byte-up [] y low h = omega arith
first_byte-up (a ∷ xs) [] low h = absurd (true≢false h)
first_byte-up (a ∷ xs) (b ∷ ys) low h = grind (arith, nat_tests, second-up xs ys)

module _ (ids : List (List ℕ)) (sorted : IsSortedIds ids) (small : All (λ id. slice_index id 1 < 16) ids) where
  in_order : IsNonDecreasingBy first_byte_of ids
  in_order i j d rise inside =
      first_byte-up (get_or ids i d) (get_or ids j d) (small i d (omega arith)) (sorted-in_order ids sorted i j d rise inside)

  -- those with a byte are where they are counted
  counted_have : (b k : ℕ) (d : List ℕ) → count_by (is_below b) ids ≤ k → k < count_by (is_up_to b) ids → has_first_byte b (get_or ids k d) ≡ true
  counted_have b k d low high =
      let inside : k < length ids = omega (arith, count_by-le-length (is_up_to b) ids) in
      let up_to = passes_below (is_up_to b) ids (IsPartitionedBy-leb first_byte_of ids b in_order) k d inside ∙ lt-ltb k (count_by (is_up_to b) ids) high in
      let below = passes_below (is_below b) ids (IsPartitionedBy-ltb first_byte_of ids b in_order) k d inside ∙ le-ltb k (count_by (is_below b) ids) low in
      eq-eqb _ b (omega (arith, leb-true _ b up_to, ltb-false _ b below))

  pub part-run : (b : ℕ) → slice_range ids (count_by (is_below b) ids) (count_by (is_up_to b) ids) ≡ part_of b ids
  part-run b =
      let start = count_by (is_below b) ids in
      let end = count_by (is_up_to b) ids in
      let more = count_by-up_to b ids in
      let inside = count_by-le-length (is_up_to b) ids in
      let behind = length-drop start ids in
      filter_counted (has_first_byte b) ids start end (omega (arith, more)) inside
      (λ k d low.
      let few : k < end - start = omega (arith, low, length-take-le (end - start) (drop start ids) (omega (arith, inside, behind, more))) in
      let is = get_or-take (end - start) (drop start ids) k d few ∙ get_or-drop start ids k d in
      subst (λ (id : List ℕ). has_first_byte b id ≡ true) (sym is) (counted_have b (start + k) d (omega arith) (omega (arith, few))))
      (omega (arith, more))

-- two ranges of a list, one after the other
slices : (xs : List (List ℕ)) (s m e : ℕ) → s ≤ m → m ≤ e → slice_range xs s m ++ slice_range xs m e ≡ slice_range xs s e
slices xs s m e low high =
    let middle : s + (m - s) ≡ m = omega arith in
    let sum : m - s + (e - m) ≡ e - s = omega arith in
    ap (λ (rest : List (List ℕ)). slice_range xs s m ++ take (e - m) rest) (ap (λ n. drop n xs) (sym middle) ∙ sym (drop-drop (m - s) s xs))
    ∙ sym (take-add (m - s) (e - m) (drop s xs)) ∙ ap (λ n. take n (drop s xs)) sum

-- those up to a byte are those below the next
pub below-next : (b : ℕ) (ids : List (List ℕ)) → count_by (is_below (suc b)) ids ≡ count_by (is_up_to b) ids
below-next b ids = λ i. count_by (λ id. same (first_byte_of id) i) ids
  where
    same : (n : ℕ) → ltb n (suc b) ≡ leb n b
    same n = grind (arith, nat_tests)

below-next' : (a : ℕ) (ids : List (List ℕ)) → count_by (is_below (a + 1)) ids ≡ count_by (is_up_to a) ids
below-next' a ids = let next : a + 1 ≡ suc a = omega arith in ap (λ n. count_by (is_below n) ids) next ∙ below-next a ids

below-rises : (a b : ℕ) (ids : List (List ℕ)) → a ≤ b → count_by (is_below a) ids ≤ count_by (is_below b) ids
below-rises a b ids rise = count_by-le (is_below a) (is_below b) ids (λ k d h low. lt-ltb _ b (omega (arith, ltb-true _ a low)))

module _ (ids : List (List ℕ)) (sorted : IsSortedIds ids) (small : All (λ id. slice_index id 1 < 16) ids) where
  parts-from : (n a : ℕ) → flat_map (λ b. part_of b ids) (range_with_len a n) ≡ slice_range ids (count_by (is_below a) ids) (count_by (is_below (a + n)) ids)
  parts-from zero a =
      let none : count_by (is_below (a + 0)) ids - count_by (is_below a) ids ≡ 0 =
      let same : a + 0 ≡ a = omega arith in omega (arith, ap (λ n. count_by (is_below n) ids) same) in
      sym (ap (λ n. take n (drop (count_by (is_below a) ids) ids)) none)
  parts-from (suc n) a =
      let next : a + 1 + n ≡ a + suc n = omega arith in
      let rest : flat_map (λ b. part_of b ids) (range_with_len (a + 1) n) ≡ slice_range ids (count_by (is_below (a + 1)) ids) (count_by (is_below (a + suc n)) ids) =
      parts-from n (a + 1) ∙ ap (λ m. slice_range ids (count_by (is_below (a + 1)) ids) (count_by (is_below m) ids)) next in
      let first : part_of a ids ≡ slice_range ids (count_by (is_below a) ids) (count_by (is_below (a + 1)) ids) =
      sym (part-run ids sorted small a) ∙ ap (slice_range ids (count_by (is_below a) ids)) (sym (below-next' a ids)) in
      (λ i. first i ++ rest i)
      ∙ slices ids (count_by (is_below a) ids) (count_by (is_below (a + 1)) ids) (count_by (is_below (a + suc n)) ids)
      (omega (arith, count_by-up_to a ids, below-next' a ids)) (below-rises (a + 1) (a + suc n) ids (omega arith))

  pub parts-row : (n : ℕ) → All (λ id. first_byte_of id < n) ids → flat_map (λ b. part_of b ids) (range_with_len 0 n) ≡ ids
  parts-row n each =
      let zeroth : 0 + n ≡ n = omega arith in
      let size : length ids - 0 ≡ length ids = omega arith in
      let all : count_by (is_below (0 + n)) ids ≡ length ids =
      ap (λ m. count_by (is_below m) ids) zeroth ∙ count_all (is_below n) ids (λ k d low. lt-ltb _ n (each k d low)) in
      parts-from n 0 ∙ (λ i. slice_range ids (count_by-below_0 ids i) (all i)) ∙ ap (λ m. take m ids) size ∙ take_all (length ids) ids (omega arith)
