-- The names of std that proofs cite, passed on from one place.
pub use Rattle.std.proofs.Common.{◌≡◌, ℕ, zero, suc, ◌+◌, ◌-◌, ◌*◌, ◌/◌, ◌%◌, ◌^◌, ◌<◌, ◌≤◌, min, max, Bool, true, false, cond, not, ◌&&◌, ◌||◌, eqb, ltb, leb, ◌≢◌, ◌⊎◌, ◌↔◌, List, [], ◌∷◌, ◌++◌, map, length, get_or, take, drop, set, replicate, pos, is_some, IfSome, is_ok, IsErrAnd, IfOk, IfErr, if◌then◌else◌, OnOk, OnErr, IsNone, IsOk, IsErr, IsTrue, nat_eq, nat_lt, ◌==◌, slice_get, slice_index, slice_index_or, slice_set, slice_range, bit_and, Some, None, Ok, Err, vec_len, string_bytes, codes, IsAscii, decimal, Decides, All, Contains, sum_by, sum, count_by, filter, Option, Result, ok_or, option_map, MatchResult, IsPermutation, IsSorted, IsSortedBy, HoldsAt, option_to_list, AllPairs, position, flat_map, option_copied, IsErrOf, bytes_eq, nat_cmp, is_eq, is_lt, is_le, is_gt, is_ge, Ordering, Less, Equal, Greater, unwrap_or, sym, refl, ap, ◌∙◌, subst, ap₂, inl, inr, true≢false, append_assoc, append-nil, map-id, mul-le-mul_right, mod-lt, mul_assoc, suc-mul, mul_comm, add-mul, eq-or-lt_of_le, mul-le-mul_left, pow-suc, zero-add, add-one, arith, length-append, length-drop, length-set, take-append-drop, length-take, length-take-le, get_or-drop, take_all, drop-cons, get_or-set_other, get_or-take, get_or-set_same, take-take, drop-drop, take-suc-set, take_at, ext_get_or, take-add, drop_at, pow_mono, w8, Fits, Bor, MutBor, rules, below_more, ltb-false, ltb-true, le-ltb, lt-ltb, eq-eqb, ne_eqb, eqb-true, le-leb, leb-true}
pub use Rattle.std.proofs.KnownBytes.{Appends-nil, Appends-trans, Consumes-kept, Consumes-nil, Consumes-trans}
pub use Rattle.std.proofs.Math.Seq.{drop-append_seam, get_or-append_seam, paste, take-append-add, take-append_seam, take-length}
pub use Rattle.std.proofs.lemmas.Bool.{agree_below, agree_below_at, and_parts, cases_Bool, cases_eq, cases_lt, cases_order, cond-false, cond-true, eqb-false, false_from_ne_true, false≢true, lt-leb, not-false, not-true, or_parts, true_from_ne_false}
pub use Rattle.std.proofs.lemmas.Bool.Decides.{Decides-eqb, Decides-like, nat_tests, same_from_decides}
pub use Rattle.std.proofs.lemmas.Cmp.{nat_eq_equiv, nat_list_cmp_total, tied_itself}
pub use Rattle.std.proofs.lemmas.Fn.{FoldsTo-push, always_returns_same}
pub use Rattle.std.proofs.lemmas.Grind.{common_steps, flat_map-append}
pub use Rattle.std.proofs.lemmas.List.{drop-map, drop-replicate, drop-take, drop_all, drop_more, flat_map_more, get_or-map, get_or-replicate, get_or_append_left, get_or_default, get_or_past, length-map, length-replicate, map-append, nil_from_length, replicate-append-replicate, same_lists, set_at, take-append-le, take-map, take_min, take_more, take_more_set, take_rest}
pub use Rattle.std.proofs.lemmas.List.Edits.{map_over_more, take-paste}
pub use Rattle.std.proofs.lemmas.List.Elements.{All-append, All-cons, All-contains, All-contains_itself, All-drop, All-filter, All-from_all_within, All-from_get_or, All-head, All-map, All-more, All-nil, All-push, All-same, All-tail, All-take, AllWithin-from_all, AllWithin-more, Contains-append_cases, Contains-append_left, Contains-append_right, Contains-get_or, filter-append, filter_passes, length_all_zip}
pub use Rattle.std.proofs.lemmas.List.Folds.{Any-from_list_any, concat-append, drop_split, flat_map-map, list_all-append, list_any-from_Any}
pub use Rattle.std.proofs.lemmas.List.FromFn.{get_or-range_with_len, length-range_with_len, map-range_with_len_more}
pub use Rattle.std.proofs.lemmas.List.Sorted.{All-permutation, Contains-permutation, IsPartitionedBy-leb, IsPartitionedBy-ltb, IsPermutation-map, IsPermutation-sym, all_adjacent_more, ranks_by, searchable_from_sorted, sorted_far}
pub use Rattle.std.proofs.lemmas.List.Sums.{common_prefix_len-le, count_by-le-length, count_by_more_no, count_by_more_yes, fails_before_first, get_or-le-sum_by, length-filter, position_or_len_is, sum_by-append, sum_by-cons, sum_by-set, sum_by-take-drop}
pub use Rattle.std.proofs.lemmas.Map.Keys.{IsDistinct-IsPermutation, IsDistinct-from_apart, Less-from_sorted, apart_from_distinct, sorted_from_all_adjacent}
pub use Rattle.std.proofs.lemmas.Option.{IfSome_then, get_or_from_slice_get, none-some, same_Some, slice_get-get_or, slice_get_within}
pub use Rattle.std.proofs.lemmas.Result.{IfErr-weaker, err_from_is_err_and, on_ok_weaker}
pub use Rattle.std.proofs.lemmas.Simd.{length-put_chunk, map-map, mask_l-mod, pick_l_whole, put_chunk_is, splat_is_map, take_more_put_chunk, tops_compared, zip2_of_maps, zip2_splat, zip2_splat_left}
pub use Rattle.std.proofs.lemmas.Slice.Eq.{bytes_eq-Decides, starts_is, strip_prefix_is}
pub use Rattle.std.specs.Char.{to_ascii_lowercase}
pub use Rattle.std.specs.Cmp.{IsEquivalence, IsTotalOrder, both_tied, nat_cmp_is, ranks, unsigned_ties}
pub use Rattle.std.specs.Cmp.Lexicographic.{bytes_decides, pointwise, slice_cmp, texts_ties}
pub use Rattle.std.specs.Cmp.Rules.{comparing}
pub use Rattle.std.specs.Io.KnownBytes.{Appends, Consumes, IsAtEnd, Keeps, prepend_known}
pub use Rattle.std.specs.List.{AllAdjacentBelow, AllWithin, AllZip, IsDistinct, after_first, before_first, common_prefix_len, concat, copy_within, dedup, list_all, list_any, position_or_len, range_with_len, slice_split, starts_with}
pub use Rattle.std.specs.List.Sorted.{IsNonDecreasingBy, IsPartitionedBy, IsSortedWithin, IsStrictlySortedBy}
pub use Rattle.std.specs.Option.{option_or}
pub use Rattle.std.specs.Ordering.{MatchOrdering, eq_by_cmp, ordering_index, ordering_reverse, ordering_then}
pub use Rattle.std.specs.Simd.{first_chunks}
pub use Rattle.std.specs.Simd.Lanes.{Each1, mask_l, pick_l, put_chunk, sel_l, top, zip2}
