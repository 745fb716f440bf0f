use Rattle.gix_hash.proofs.Std.{◌∙◌, ap, ◌+◌, ◌≡◌, ◌<◌, ℕ, arith, length, refl, subst, sym, slice_set, sum_by, err_from_is_err_and}
use Rattle.std.specs.Borrow.{MutBor}
use Rattle.object_store.specs.Stores.{CanLookUp}
use Rattle.object_store.proofs.FoundAt.{all_found, have_more, none_found, of_one, one_more, size_more}
use Rattle.object_store.proofs.look_ups.look_up_each.Goals as goal
use Rattle.object_store.proofs.look_ups.look_up_each.Goals.{in-Some, in-None+else-prefixes-gt1}

pub loop-place-init : goal.loop-place-init
loop-place-init g c = record {
  parts = refl;
  store = ap (λ (r : MutBor _). r.now) c.for_many-parts.ensures;
  found = none_found (g.L.LookUp.finds c.args.look_up.now c.args.store.now) g.L.LookUp.size c.args.prefixes.now c.in_ok-places.places.items c.in_ok-places.ensures
      c.in_ok-found.found.items c.in_ok-found.ensures.len c.in_ok-found.ensures.empty;
  room = λ _. omega (arith, c.in_ok-found.ensures.empty);
}

pub look_up-requires-clause-can : goal.look_up-requires-clause-can
look_up-requires-clause-can g c =
    let at = c.index.result.now.1 in
    let inside : c.loop-place.place < length c.in_ok-places.places.items = omega (arith, c.loop-place-test.true, c.loop-place.auto.place-end) in
    let low : at < length c.args.prefixes.now =
    subst (λ (p : ℕ × ℕ). p.1 < length c.args.prefixes.now) (sym c.index.ensures) (c.in_ok-places.ensures.in_range c.loop-place.place c.index.result.now inside) in
    rw c.loop-place.invariant.store (subst (CanLookUp (g.S.Store.view c.args.store.now)) (sym c.index-prefixes-at.is) (c.requires.can at c.index-prefixes-at.result low))

pub loop-place-preserved : goal.loop-place-preserved
loop-place-preserved g c =
    let Finds = g.L.LookUp.finds c.args.look_up.now c.args.store.now in
    let size = g.L.LookUp.size in
    let found = c.loop-place.found.items in
    let one = c.in-Ok.one in
    let inside : c.loop-place.place < length c.in_ok-places.places.items = omega arith in
    let finds : Finds c.index-prefixes-at.result.digits one =
    rw c.loop-place.invariant.store at c.in-Ok.ensures.found in
    let more : sum_by size (slice_set found c.index.result.now.1 one) ≡ sum_by size found + size one =
    size_more Finds size c.args.prefixes.now c.in_ok-places.places.items c.in_ok-places.ensures c.loop-place.place found c.loop-place.invariant.found c.index.result.now
    c.index-prefixes-at.result one inside c.index.ensures c.index-prefixes-at.is finds in
    record {
      parts = c.look_up.ensures.store ∙ c.loop-place.invariant.parts;
      store = ap (λ (r : MutBor _). r.now) c.look_up.ensures.store ∙ c.loop-place.invariant.store;
      found = one_more Finds size c.args.prefixes.now c.in_ok-places.places.items c.in_ok-places.ensures c.loop-place.place found c.loop-place.invariant.found c.index.result.now
          c.index-prefixes-at.result one inside c.index.ensures c.index-prefixes-at.is finds;
      room = λ many. elim c.match-left.branch [
        | in-Some w ↦ omega (arith, more, w.room-is, w.in-Some.ensures.0, w.in-Some.ensures.1, c.loop-place.invariant.room many)
        | in-None+else-prefixes-gt1 w ↦ absurd (omega (arith, many, w.if-prefixes-gt1.false))
      ];
    }

pub returns-in-None-clause-more : goal.returns-in-None-clause-more
returns-in-None-clause-more g c =
    let Finds = g.L.LookUp.finds c.args.look_up.now c.args.store.now in
    let finds : Finds c.index-prefixes-at.result.digits c.in-Ok.one =
    rw c.loop-place.invariant.store at c.in-Ok.ensures.found in
    have_more Finds g.L.LookUp.size c.args.prefixes.now c.in_ok-places.places.items c.in_ok-places.ensures c.loop-place.place c.loop-place.found.items c.loop-place.invariant.found
    c.index.result.now c.index-prefixes-at.result c.in-Ok.one (omega arith) c.index.ensures c.index-prefixes-at.is finds c.args.most c.loop-place.room
    (c.loop-place.invariant.room c.if-prefixes-gt1.true) (omega (arith, c.in-None.ensures))

pub returns-clause-found : goal.returns-clause-found
returns-clause-found g c =
    all_found (g.L.LookUp.finds c.args.look_up.now c.args.store.now) g.L.LookUp.size c.args.prefixes.now c.in_ok-places.places.items c.in_ok-places.ensures
    c.loop-place.place c.loop-place.found.items (omega arith) c.loop-place.invariant.found

pub returns-clause-few : goal.returns-clause-few
returns-clause-few g c = λ many. omega (arith, c.loop-place.invariant.room many)

pub returns-in-Err-clause-err : goal.returns-in-Err-clause-err
returns-in-Err-clause-err g c =
    let inside : c.loop-place.place < length c.in_ok-places.places.items = omega arith in
    let low : c.index.result.now.1 < length c.args.prefixes.now =
    subst (λ (p : ℕ × ℕ). p.1 < length c.args.prefixes.now) (sym c.index.ensures) (c.in_ok-places.ensures.in_range c.loop-place.place c.index.result.now inside) in
    of_one (g.L.LookUp.fails c.args.look_up.now (g.S.Store.view c.args.store.now)) c.args.prefixes.now c.index-prefixes-at.result _
    (c.index.result.now.1, low, sym c.index-prefixes-at.is) (rw (← c.loop-place.invariant.store) c.in-Err.ensures.err)
