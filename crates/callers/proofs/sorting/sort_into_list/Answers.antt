use Rattle.std.proofs.Common.{◌≡◌, map, subst, rules}
use Rattle.std.specs.List.Sorted.{IsPermutation}
use Rattle.std.proofs.lemmas.List.Sorted.{IsPermutation-map}
use Rattle.gix_hash.specs.Words.{id_digits}
use Rattle.callers.proofs.sorting.sort_into_list.Goals as goal

pub returns-clause-permutation : goal.returns-clause-permutation
returns-clause-permutation c =
    let is : map id_digits c.sort_ids.new.ids ≡ c.unwrap.result = search rules in
    subst (IsPermutation (map id_digits c.args.ids.now)) is (IsPermutation-map id_digits _ _ c.sort_ids.ensures.permutation)
