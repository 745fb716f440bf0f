use Rattle.gix_hash.proofs.Std.{◌≡◌, ◌+◌, ◌∙◌, ap, refl, inl, inr, Some, arith, length-map}
use Rattle.list_search.specs.declared.error.SearchError.TheVariants.{WrongKind, NotRising}
use Rattle.list_search.specs.declared.search.Search.TheVariants.{In}
use Rattle.id_lookup.specs.Words.{Index, id_digits}
use Rattle.list_search.proofs.FinderLemmas.{no_more_found}
use Rattle.list_search.proofs.Orders.{bad_is}
use Rattle.list_search.proofs.query.find_in_index.Goals as goal

pub returns-in-Err-WrongKind-clause-bad : goal.returns-in-Err-WrongKind-clause-bad
returns-in-Err-WrongKind-clause-bad c =
    let at = c.in-Err-WrongKind.at in
    let line : c.args.before + 1 + at ≡ c.args.before + at + 1 = omega arith in
    bad_is (In c.args.kind) _ _ at WrongKind (inl (refl, rw c.in-Err-WrongKind.field-0-is at c.in-Err-WrongKind.ensures.err)) ∙ ap (λ k. Some (WrongKind k)) line

pub returns-in-Err-NotRising-clause-bad : goal.returns-in-Err-NotRising-clause-bad
returns-in-Err-NotRising-clause-bad c =
    let at = c.in-Err-NotRising.at in
    let line : c.args.before + 1 + at ≡ c.args.before + at + 1 = omega arith in
    bad_is (In c.args.kind) _ _ at NotRising (inr (refl, rw c.in-Err-NotRising.field-0-is at c.in-Err-NotRising.ensures.err)) ∙ ap (λ k. Some (NotRising k)) line

pub returns-in-Ok-clause-within : goal.returns-in-Ok-clause-within
returns-in-Ok-clause-within c = no_more_found _ _ _ _ c.matches.ensures.value (ap (λ (index : Index). index.ids) c.in-Ok.ensures.ok)

pub overflow_add-result : goal.overflow_add-result
overflow_add-result c = omega (arith, c.requires.room, (rw c.in-Err-WrongKind.field-0-is at c.in-Err-WrongKind.ensures.err).in_range, length-map c.args.ids.now id_digits)

pub overflow_add-result-in-Err-WrongKind : goal.overflow_add-result-in-Err-WrongKind
overflow_add-result-in-Err-WrongKind c = omega (arith, c.requires.room, (rw c.in-Err-WrongKind.field-0-is at c.in-Err-WrongKind.ensures.err).in_range, length-map c.args.ids.now id_digits)

pub overflow_add-result-in-Err-NotRising : goal.overflow_add-result-in-Err-NotRising
overflow_add-result-in-Err-NotRising c = omega (arith, c.requires.room, (rw c.in-Err-NotRising.field-0-is at c.in-Err-NotRising.ensures.err).in_range, length-map c.args.ids.now id_digits)

pub overflow_add-result-in-Err-NotRising-2 : goal.overflow_add-result-in-Err-NotRising-2
overflow_add-result-in-Err-NotRising-2 c = omega (arith, c.requires.room, (rw c.in-Err-NotRising.field-0-is at c.in-Err-NotRising.ensures.err).in_range, length-map c.args.ids.now id_digits)
