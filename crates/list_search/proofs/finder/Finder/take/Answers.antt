use Rattle.gix_hash.proofs.Std.{sym, ◌∙◌, refl}
use Rattle.list_search.proofs.FinderLemmas.{is_none, is_some_of, found_refused, found_stops, found_further}
use Rattle.list_search.proofs.finder.Finder.take.Goals as goal

pub returns-then-is_some-clause-known : goal.returns-then-is_some-clause-known
returns-then-is_some-clause-known g c ids h =
    let some = is_some_of c.args.self.now.refusal (sym c.is_some.ensures ∙ c.if-is_some.true) in
    found_refused _ _ ids _ _ h c.args.part.now refl some.0 some.1 refl

pub returns-in-Err-clause-known : goal.returns-in-Err-clause-known
returns-in-Err-clause-known g c ids h =
    let none = is_none c.args.self.now.refusal (sym c.is_some.ensures ∙ c.if-is_some.false) in
    found_stops _ _ ids _ _ h c.args.part.now refl _ none refl c.in-Err.ensures.refused

pub returns-in-Ok-extend_from_slice-clause-known : goal.returns-in-Ok-extend_from_slice-clause-known
returns-in-Ok-extend_from_slice-clause-known g c ids h =
    let none = is_none c.args.self.now.refusal (sym c.is_some.ensures ∙ c.if-is_some.false) in
    let said = c.in-Ok.ensures in
    found_further _ _ ids _ _ h c.args.part.now refl _ _ none none c.in-Ok-extend_from_slice.ensures.items c.last_of-self.ensures c.min-self.ensures said.in_order said.least said.found
