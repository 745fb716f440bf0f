use Rattle.gix_hash.proofs.Std.{List, map, subst, err_from_is_err_and}
use Rattle.id_lookup.specs.Words.{Kind, ObjectId, id_digits, matches}
use Rattle.object_store.specs.Several.{IsAbbreviatedAs}
use Rattle.object_store.proofs.Abbreviated.{front_byte, is_abbreviated}
use Rattle.object_store.proofs.parts.Parts.abbreviate_prefix.Goals as goal

pub returns-in_err-front-clause-err : goal.returns-in_err-front-clause-err
returns-in_err-front-clause-err g c =
    let p = err_from_is_err_and c.from_residual.result c.from_residual.ensures.1 in
    let byte = front_byte c.args.least c.args.prefix.now.digits c.front_of.result.digits c.front_of.ensures.digits c.requires.enough c.requires.can.enough in
    rw (p.1, p.2, ← byte) c.in_err-front.ensures.err

pub returns-clause-abbreviation : goal.returns-clause-abbreviation
returns-clause-abbreviation g c =
    let digits = c.args.prefix.now.digits in
    let a = c.abbreviation_in-found.result in
    let Found : Kind → List ObjectId → Type 0 = λ kind ids. IsAbbreviatedAs c.args.least kind (map id_digits ids) (matches digits (map id_digits ids)) a in
    is_abbreviated c.args.least (g.S.Store.view c.args.self.now.now) digits c.front_of.result.digits c.in_ok-front.front.ids.items a c.front_of.ensures.digits c.requires.enough c.requires.can.enough
    c.in_ok-front.ensures.matches
    (subst (λ (k : Kind). Found k c.in_ok-front.front.ids.items) c.requires.can.kind (subst (Found c.args.prefix.now.kind) c.deref.ensures.value c.abbreviation_in-found.ensures))
