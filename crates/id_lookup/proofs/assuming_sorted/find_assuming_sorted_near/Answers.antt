use Rattle.gix_hash.proofs.Std.{map, arith}
use Rattle.id_lookup.proofs.Placed.{bound_of-end, run_is}
use Rattle.id_lookup.proofs.assuming_sorted.find_assuming_sorted_near.Goals as goal

pub returns-clause-run : goal.returns-clause-run
returns-clause-run g c sorted =
    let ids = map g.I.Id.digits c.args.ids.now in
    let prefix = c.args.prefix.now in
    let near = c.part_near-near.ensures in
    let start = c.bound_assuming_sorted-start.ensures.value sorted (near.above sorted) (near.below sorted) in
    let from = c.part_from-from.ensures in
    let ends = bound_of-end prefix ids in
    let end = c.bound_assuming_sorted-end.ensures.value sorted (from.above sorted (omega (arith, start, ends))) (from.below sorted) in
    run_is prefix ids sorted _ start end
