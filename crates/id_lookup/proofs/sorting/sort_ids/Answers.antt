use Rattle.gix_hash.proofs.Std.{rules, is_lt, nat_cmp, slice_cmp, nat_list_cmp_total, always_returns_same, ranks_by}
use Rattle.id_lookup.proofs.OneKind.{sorted-map}
use Rattle.id_lookup.proofs.sorting.sort_ids.Goals as goal

pub returns-clause-sorted : goal.returns-clause-sorted
returns-clause-sorted g c =
    let digits = g.I.Id.digits in
    sorted-map digits (λ a b. is_lt (slice_cmp nat_cmp a b)) c.sort_unstable_by.new.self
    (c.sort_unstable_by.ensures.sorted (λ a b. is_lt (slice_cmp nat_cmp (digits a) (digits b))) (ranks_by nat_list_cmp_total digits)
    (always_returns_same _ _ _ (λ a r f k. search rules)))
