use Rattle.std.proofs.Common.{tests}
use Rattle.gix_hash.proofs.Std.{◌≡◌, ◌==◌, Bor, IfOk, IsPermutation, IsPermutation-map, List, filter, is_lt, map, nat_cmp, rules, slice_cmp, subst, ℕ}
use Rattle.std.proofs.lemmas.Iterator.Consumers.{YieldsList-at, YieldsList-from_filter, map_from_collect}
use Rattle.std.proofs.lemmas.Iterator.Splits.{YieldsList-from_slice_split}
use Rattle.directory_store.specs.Packs.{is_index_name, split_names}
use Rattle.directory_store.proofs.IndexLists.{sorted-map}
use Rattle.directory_store.proofs.packs.index_names.Goals as goal

abbrev bytes_of : Bor (List ℕ) → List ℕ
bytes_of name = name.now

pub returns : goal.returns
returns c =
    let chosen = filter is_index_name (split_names c.args.names.now) in
    let sorted = c.sort_unstable.new.self.items in
    let collected : IfOk c.collect.result (λ names. map bytes_of names.items ≡ chosen) =
    map_from_collect _ c.collect.ensures.ran (YieldsList-from_filter _ is_index_name (YieldsList-at c.filter.ensures.source
    (YieldsList-from_slice_split _ (λ byte. byte == 0) c.args.names.now c.split-names.ensures.rest c.split-names.ensures.done c.split-names.ensures.closure (λ x r q k. search (rules, tests))))
    c.filter.ensures.closure (λ x r q k. search (rules, tests))) in
    let is : map bytes_of c.in_ok-names.names.items ≡ chosen = subst (λ r. IfOk r (λ names. map bytes_of names.items ≡ chosen)) c.in_ok-names.was collected in
    record {
      same = subst (λ (all : List (List ℕ)). IsPermutation all (map bytes_of sorted)) is (IsPermutation-map bytes_of _ sorted c.sort_unstable.ensures.permutation);
      ordered = sorted-map bytes_of (λ a b. is_lt (slice_cmp nat_cmp a b)) sorted c.sort_unstable.ensures.sorted;
    }
