use Rattle.gix_hash.proofs.Std.{arith}
use Rattle.id_lookup.proofs.Indexes.{run_ending}
use Rattle.id_lookup.proofs.index.IdIndex.find.Goals as goal

pub returns-in-0 : goal.returns-in-0
returns-in-0 g c =
    let none = c.in-0.is in
    let run = rw c.probes.ensures at c.lookup_in-run.ensures.run in
    (c.lookup_in-run.result.start, run_ending c.args.prefix.now c.args.self.now.ids c.lookup_in-run.result _ run (omega (arith, none, run.end)))

pub returns-in-1 : goal.returns-in-1
returns-in-1 g c =
    let one = c.in-1.is in
    let run = rw c.probes.ensures at c.lookup_in-run.ensures.run in
    run_ending c.args.prefix.now c.args.self.now.ids c.lookup_in-run.result _ run (omega arith)
