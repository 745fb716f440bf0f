use Rattle.gix_hash.proofs.Std.{◌≡◌, ◌+◌, ◌∙◌, ap, sym, refl, Some, arith, length-map, err_from_is_err_and}
use Rattle.id_lookup.specs.Words.{id_digits}
use Rattle.list_search.specs.declared.error.SearchError.TheVariants.{Unsorted}
use Rattle.list_search.specs.declared.search.Search.TheVariants.{Sorted}
use Rattle.list_search.proofs.FinderLemmas.{no_more_found}
use Rattle.list_search.proofs.Orders.{late_first, in_order_after, bad_is}
use Rattle.list_search.proofs.query.Query.find.Goals as goal

pub returns-in-Some-clause-refused : goal.returns-in-Some-clause-refused
returns-in-Some-clause-refused c = late_first _ _ _ _ ∙ rw (sym c.error_of_first.ensures ∙ c.in-Some.is) refl

pub returns-then-hex_len-min-clause-in_order : goal.returns-then-hex_len-min-clause-in_order
returns-then-hex_len-min-clause-in_order c =
    in_order_after _ _ _ _ (sym c.error_of_first.ensures ∙ c.in_default.is) (rw c.in-Sorted.is (c.in-Ok.ensures.sorted.0 refl))

pub returns-else-hex_len-min-clause-in_order : goal.returns-else-hex_len-min-clause-in_order
returns-else-hex_len-min-clause-in_order c =
    in_order_after _ _ _ _ (sym c.error_of_first.ensures ∙ c.in_default.is) (rw c.in-Sorted.is (c.in-Ok.ensures.sorted.0 refl))

pub returns-else-hex_len-min-clause-within : goal.returns-else-hex_len-min-clause-within
returns-else-hex_len-min-clause-within c = no_more_found _ _ _ _ c.matches.ensures c.in-Ok.ensures.ok

pub returns-in-Err-clause-refused : goal.returns-in-Err-clause-refused
returns-in-Err-clause-refused c =
    let at = c.in-Err.unsorted.at in
    let line : c.args.before + 1 + at ≡ c.args.before + at + 1 = omega arith in
    late_first _ _ _ _ ∙ rw (sym c.error_of_first.ensures ∙ c.in_default.is)
    (rw c.in-Sorted.is (bad_is (Sorted c.in-Sorted.field-0) _ _ at Unsorted (refl, c.in-Err.ensures.err) ∙ ap (λ k. Some (Unsorted k)) line))

pub returns-in_ok-find_in_index-in-In-clause-in_order : goal.returns-in_ok-find_in_index-in-In-clause-in_order
returns-in_ok-find_in_index-in-In-clause-in_order c =
    in_order_after _ _ _ _ (sym c.error_of_first.ensures ∙ c.in_default.is) (rw c.in-In.is c.in_ok-find_in_index-in-In.ensures.in_order)

pub returns-in_err-find_in_index-in-In-clause-refused : goal.returns-in_err-find_in_index-in-In-clause-refused
returns-in_err-find_in_index-in-In-clause-refused c =
    let p = err_from_is_err_and c.from_residual.result c.from_residual.ensures.1 in
    rw (p.1, p.2) (late_first _ _ _ _ ∙ rw (sym c.error_of_first.ensures ∙ c.in_default.is) (rw c.in-In.is c.in_err-find_in_index-in-In.ensures.bad))

pub overflow_add-result : goal.overflow_add-result
overflow_add-result c = omega (arith, c.requires, c.in-Err.ensures.err.in_range, length-map c.args.part.now id_digits)

pub overflow_add-result-in-Err : goal.overflow_add-result-in-Err
overflow_add-result-in-Err c = omega (arith, c.requires, c.in-Err.ensures.err.in_range, length-map c.args.part.now id_digits)
