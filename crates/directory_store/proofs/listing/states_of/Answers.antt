use Rattle.gix_hash.proofs.Std.{arith, map, rules, string_bytes, subst, take_all}
use Rattle.directory_store.specs.Stores.{AreStatesOf}
use Rattle.directory_store.proofs.PathStates.{one_state}
use Rattle.directory_store.proofs.listing.states_of.Goals as goal

pub loop-path-preserved : goal.loop-path-preserved
loop-path-preserved g c = record {
  as_many = search rules;
  states = λ at known. one_state at c.args.paths.now c.loop-path.path-index c.path-item.result _ c.loop-path.states.items _ _ (omega arith) c.path-item.is c.deref.ensures
      (c.loop-path.invariant.states at known) (c.in_ok-state_of.ensures.state at known) c.in_ok-push.ensures.items;
}

pub returns-clause-states : goal.returns-clause-states
returns-clause-states g c = λ at known.
    subst (λ paths. AreStatesOf (map string_bytes paths) c.loop-path.states.items at) (take_all c.loop-path.path-index c.args.paths.now (omega arith)) (c.loop-path.invariant.states at known)
