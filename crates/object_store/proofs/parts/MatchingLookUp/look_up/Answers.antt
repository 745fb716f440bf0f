use Rattle.gix_hash.proofs.Std.{◌≡◌, ◌∙◌, List, All, ap, arith, map, refl, rules, subst, sym, err_from_is_err_and}
use Rattle.std.proofs.lemmas.Result.{IfOk-weaker}
use Rattle.id_lookup.specs.Words.{ObjectId, id_digits, id_kind, matches}
use Rattle.object_store.specs.Several.{AreFirstMatches}
use Rattle.object_store.specs.Stores.{AreMatches}
use Rattle.object_store.proofs.Abbreviated.{front_byte}
use Rattle.object_store.proofs.FirstMatches.{first_matches}
use Rattle.object_store.proofs.parts.MatchingLookUp.look_up.Goals as goal

pub returns-in_default-clause-found : goal.returns-in_default-clause-found
returns-in_default-clause-found g c =
    let view = g.S.Store.view c.args.parts.now.now in
    let digits = c.args.prefix.now.digits in
    IfOk-weaker c.lookup_prefix.result (λ ids. AreMatches view digits ids.items) (AreFirstMatches c.args.self.now.limit view digits)
    (λ ids are. record { ids = ids; are_matches = are; first_are = rw c.in_default.is refl }) c.lookup_prefix.ensures.matches

pub returns-in_err-front-clause-err : goal.returns-in_err-front-clause-err
returns-in_err-front-clause-err g c =
    let p = err_from_is_err_and c.from_residual.result c.from_residual.ensures.1 in
    let byte = front_byte 14 c.args.prefix.now.digits c.front_of.result.digits c.front_of.ensures.digits (omega arith) c.requires.can.enough in
    rw (p.1, p.2, ← byte) c.in_err-front.ensures.err

pub returns-clause-found : goal.returns-clause-found
returns-clause-found g c =
    let view = g.S.Store.view c.args.parts.now.now in
    let digits = c.args.prefix.now.digits in
    let are = c.in_ok-front.ensures.matches in
    let copied : c.in_ok-first.field-0.items ≡ c.limited_to.result.now = search rules in
    first_matches c.args.self.now.limit 14 view digits c.front_of.result.digits c.in_ok-front.front.ids c.beginning_with.result.now c.in_ok-first.field-0 c.front_of.ensures.digits
    (omega arith) c.requires.can.enough are
    (c.beginning_with.ensures.ids ∙ ap (λ (ids : List ObjectId). matches digits (map id_digits ids)) c.deref.ensures.value)
    (c.beginning_with.ensures.kinds view.kind (subst (All (λ (id : ObjectId). id_kind id ≡ view.kind)) (sym c.deref.ensures.value) are.kinds))
    (copied ∙ c.limited_to.ensures)
