use Rattle.gix_hash.proofs.Std.{◌∙◌, [], ap, refl, sym, take_all, err_from_is_err_and}
use Rattle.gix_hash.specs.declared.ObjectId.TheVariants.{Sha1}
use Rattle.std.specs.Borrow.{MutBor}
use Rattle.object_store.proofs.LocatedIds.{fault_of_first, first_bytes, first_kinds, located_more}
use Rattle.object_store.proofs.parts.Parts.locate_prefix.Goals as goal

pub locate-requires-clause-kind : goal.locate-requires-clause-kind
locate-requires-clause-kind g c =
    first_kinds (g.S.Store.view c.args.self.now.now) c.args.prefix.now.digits c.args.limit c.in_ok-first.ensures.found.ids.items c.deref-id-items.result.now c.in_ok-first.ensures.found.are_matches (c.deref-id-items.ensures.value ∙ c.in_ok-first.ensures.found.first_are) c.loop-id.id-index
    (Sha1 []) c.loop-id-test.true
    ∙ sym (ap (λ (r : MutBor _). (g.S.Store.view r.now).kind) c.loop-id.invariant.0)

pub locate-requires-clause-listed : goal.locate-requires-clause-listed
locate-requires-clause-listed g c = λ only is.
    first_bytes (g.S.Store.view c.args.self.now.now) c.args.prefix.now.digits c.args.limit c.in_ok-first.ensures.found.ids.items c.deref-id-items.result.now c.in_ok-first.ensures.found.are_matches (c.deref-id-items.ensures.value ∙ c.in_ok-first.ensures.found.first_are) c.requires.enough
    c.loop-id.id-index (Sha1 []) c.loop-id-test.true
    ∙ c.requires.listed only (sym (ap (λ (r : MutBor _). (g.S.Store.view r.now).listed) c.loop-id.invariant.0) ∙ is)

pub returns-in_err-locations-clause-err : goal.returns-in_err-locations-clause-err
returns-in_err-locations-clause-err g c =
    let failed = err_from_is_err_and c.from_residual-in_err-locations.result c.from_residual-in_err-locations.ensures.1 in
    let fault = rw c.loop-id.invariant.0 at c.in_err-locations.ensures.err in
    rw (failed.1, failed.2)
    (fault_of_first (g.S.Store.view c.args.self.now.now) c.args.prefix.now.digits c.args.limit c.in_ok-first.ensures.found.ids.items c.deref-id-items.result.now c.in_ok-first.ensures.found.are_matches (c.deref-id-items.ensures.value ∙ c.in_ok-first.ensures.found.first_are)
    c.loop-id.id-index (Sha1 []) c.in_err-locations.field-0.0 c.requires.enough c.loop-id-test.true fault)

pub loop-id-preserved : goal.loop-id-preserved
loop-id-preserved g c =
    let locations = rw c.loop-id.invariant.0 at c.in_ok-locations.ensures.locations in
    let paths = rw (c.store.ensures, c.locate.ensures.store, c.loop-id.invariant.0) at c.in_ok-loose_paths.ensures in
    let more =
    located_more (g.S.Store.view c.args.self.now.now) (g.S.StorePaths.loose_paths c.args.self.now.now) c.loop-id.id-index c.deref-id-items.result.now (Sha1 []) c.loop-id.located.items
    c.push.new.items.items _ c.in_ok-push.ensures c.loop-id-test.true refl (record { locations = locations; paths = paths }) c.loop-id.invariant.1
    c.loop-id.invariant.2 in
    (c.locate.ensures.store ∙ c.loop-id.invariant.0, more.0, more.1)

pub returns-clause-located : goal.returns-clause-located
returns-clause-located g c = record {
  ids = c.in_ok-first.ensures.found.ids.items;
  are_matches = c.in_ok-first.ensures.found.are_matches;
  first = c.loop-id.invariant.1 ∙ take_all c.loop-id.id-index c.deref-id-items.result.now c.loop-id-test.false ∙ (c.deref-id-items.ensures.value ∙ c.in_ok-first.ensures.found.first_are);
  each = c.loop-id.invariant.2;
}
