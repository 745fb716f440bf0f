use Rattle.gix_hash.proofs.Std.{◌-◌, ap, arith}
use Rattle.id_lookup.specs.Runs.{Probing}
use Rattle.id_lookup.proofs.Binary.{bits-least, bits-mono}
use Rattle.id_lookup.proofs.Placed.{bound_of-end, run_is}
use Rattle.id_lookup.proofs.search.find_run.Goals as goal

pub find_bound-start-requires-clause-below : goal.find_bound-start-requires-clause-below
find_bound-start-requires-clause-below g c =
    omega (arith, c.requires.below, bound_of-end c.args.probes.now.prefix c.args.probes.now.ids)

pub find_bound-start-requires-clause-room : goal.find_bound-start-requires-clause-room
find_bound-start-requires-clause-room g c =
    let few = bits-least (c.args.part.end - c.args.part.start) 64 (omega arith) in
    omega arith

pub find_bound-end-requires-clause-above : goal.find_bound-end-requires-clause-above
find_bound-end-requires-clause-above g c =
    let list = ap (λ (p : Probing). p.ids) c.find_bound-start.ensures.same in
    let prefix = ap (λ (p : Probing). p.prefix) c.find_bound-start.ensures.same in
    let ends = bound_of-end c.args.probes.now.prefix c.args.probes.now.ids in
    rw (list, prefix) (omega (arith, c.find_bound-start.ensures.value))

pub find_bound-end-requires-clause-room : goal.find_bound-end-requires-clause-room
find_bound-end-requires-clause-room g c =
    let few = bits-least (c.args.part.end - c.args.part.start) 64 (omega arith) in
    let fewer = bits-least (c.args.part.end - c.find_bound-start.result) 64 (omega arith) in
    omega (arith, c.find_bound-start.ensures.asked)

pub returns-clause-run : goal.returns-clause-run
returns-clause-run g c =
    let list = ap (λ (p : Probing). p.ids) c.find_bound-start.ensures.same in
    let prefix = ap (λ (p : Probing). p.prefix) c.find_bound-start.ensures.same in
    run_is c.args.probes.now.prefix c.args.probes.now.ids c.requires.can_probe.sorted _ c.find_bound-start.ensures.value
    (rw (list, prefix) at c.find_bound-end.ensures.value)

pub returns-clause-asked : goal.returns-clause-asked
returns-clause-asked g c =
    let fewer = bits-mono (c.args.part.end - c.find_bound-start.result) (c.args.part.end - c.args.part.start)
    (omega (arith, c.requires.above, c.find_bound-start.ensures.value)) in
    omega (arith, c.requires.fresh, c.find_bound-start.ensures.asked, c.find_bound-end.ensures.asked)
