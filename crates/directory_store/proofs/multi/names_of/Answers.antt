use Rattle.std.proofs.Common.{tests}
use Rattle.gix_hash.proofs.Std.{◌==◌, length, not, rules}
use Rattle.std.proofs.lemmas.Iterator.Consumers.{YieldsList-at, YieldsList-from_filter, map_from_collect}
use Rattle.std.proofs.lemmas.Iterator.Splits.{YieldsList-from_slice_split}
use Rattle.directory_store.proofs.multi.names_of.Goals as goal

pub returns : goal.returns
returns c =
    map_from_collect _ c.collect.ensures.ran (YieldsList-from_filter _ (λ name. not (length name == 0)) (YieldsList-at c.filter.ensures.source
    (YieldsList-from_slice_split _ (λ byte. byte == 0) c.args.names.now c.split-names.ensures.rest c.split-names.ensures.done c.split-names.ensures.closure (λ x r q k. search (rules, tests))))
    c.filter.ensures.closure (λ x r q k. search (rules, tests)))
