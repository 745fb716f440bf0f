use Rattle.gix_hash.proofs.Std.{arith, map, string_bytes, subst, take, take_all, take_more}
use Rattle.directory_store.specs.Stores.{AreStatesOf}
use Rattle.directory_store.proofs.PathStates.{one_state}
use Rattle.directory_store.proofs.listing.expect_states.Goals as goal

pub loop-at-preserved : goal.loop-at-preserved
loop-at-preserved g c = λ at known.
    let index = c.loop-at.at in
    one_state at c.args.paths.now index c.index-paths-at.result _ (take index c.args.states.now) _ _ (omega arith) c.index-paths-at.is c.deref.ensures (c.loop-at.invariant at known)
    (c.in_ok-expect_state.ensures.state at known) (take_more c.args.states.now index _ (omega arith))

pub returns : goal.returns
returns g c = λ at known.
    let index = c.loop-at.at in
    subst (λ paths. AreStatesOf (map string_bytes paths) c.args.states.now at) (take_all index c.args.paths.now (omega arith))
    (subst (λ states. AreStatesOf (map string_bytes (take index c.args.paths.now)) states at) (take_all index c.args.states.now (omega arith)) (c.loop-at.invariant at known))
