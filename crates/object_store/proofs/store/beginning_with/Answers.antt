use Rattle.gix_hash.proofs.Std.{map, arith}
use Rattle.id_lookup.specs.Words.{id_digits}
use Rattle.id_lookup.proofs.Indexes.{index-sorted}
use Rattle.id_lookup.proofs.Matched.{run_matches}
use Rattle.object_store.proofs.LooseParts.{index_least}
use Rattle.object_store.proofs.store.beginning_with.Goals as goal

pub find_assuming_sorted-run-requires : goal.find_assuming_sorted-run-requires
find_assuming_sorted-run-requires c = omega (arith, index_least c.requires.0 (map id_digits c.args.ids.now) c.requires.1, c.requires.2)

pub returns-clause-ids : goal.returns-clause-ids
returns-clause-ids c =
    run_matches id_digits c.args.prefix.now c.args.ids.now c.find_assuming_sorted-run.result
    (c.find_assuming_sorted-run.ensures.run (index-sorted c.requires.0 (map id_digits c.args.ids.now) c.requires.1))
