use Rattle.gix_hash.proofs.Std.{refl}
use Rattle.id_lookup.proofs.Matched.{run_matches}
use Rattle.id_lookup.proofs.index.IdIndex.matches.Goals as goal

pub returns-clause-value : goal.returns-clause-value
returns-clause-value g c =
    let run = rw c.probes.ensures at c.lookup_in-run.ensures.run in
    rw (← c.self.view_is) (run_matches g.I.Id.digits c.args.prefix.now c.self.inside.ids.now c.lookup_in-run.result (rw (← c.self.view_is) at run))

pub lookup_in-run-requires-clause-fresh : goal.lookup_in-run-requires-clause-fresh
lookup_in-run-requires-clause-fresh g c = rw c.probes.ensures refl

pub lookup_in-run-requires-clause-fan_out : goal.lookup_in-run-requires-clause-fan_out
lookup_in-run-requires-clause-fan_out g c = rw (c.probes.ensures, ← c.self.view_is) c.self.invariant.1
