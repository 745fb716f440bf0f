use Rattle.gix_hash.proofs.Std.{◌≡◌, ◌-◌, ◌<◌, Ok, [], length, take, get_or, refl, sym, subst, ◌∙◌, arith, nat_tests, get_or_default}
use Rattle.id_lookup.specs.Words.{full_read, hex_letter, whole_of}
use Rattle.list_search.proofs.FinderLemmas.{is_none}
use Rattle.list_search.proofs.ChunkLemmas.{id_found}
use Rattle.list_search.proofs.IdLines.{can_skip}
use Rattle.list_search.proofs.query.Query.find_skippable.Goals as goal

pub returns-then-are_sorted_lines : goal.returns-then-are_sorted_lines
returns-then-are_sorted_lines g c =
    let lines = c.args.lines.now in
    let n = g.row.LINE - 1 in
    let some : 0 < length lines = grind (arith, nat_tests, c.is_empty.ensures, c.if-is_empty.false) in
    let start : c.index-lines-0.result ≡ get_or lines 0 [] = c.index-lines-0.is ∙ get_or_default lines 0 _ [] some in
    let stop : c.index-lines-lines.result ≡ get_or lines (length lines - 1) [] = c.index-lines-lines.is ∙ get_or_default lines (length lines - 1) _ [] (omega arith) in
    can_skip c.args.self.now.search c.args.self.now.prefix _ c.in_ok-first.first c.in_ok-end.end g.row.LINE c.requires lines
    (rw c.allows_repeats.ensures at (c.are_sorted_lines.ensures c.if-are_sorted_lines.true)) some (c.if-not-takes_length.ensures.search refl)
    (subst (λ line. full_read hex_letter (take n line) ≡ Ok (whole_of c.in_ok-first.first)) start (sym (id_found _ _ c.in_ok-first.ensures)))
    (subst (λ line. full_read hex_letter (take n line) ≡ Ok (whole_of c.in_ok-end.end)) stop (sym (id_found _ _ c.in_ok-end.ensures)))
    (c.if-not-is_outside.ensures refl) (sym c.error_of_first.ensures ∙ is_none c.error_of_first.result (sym c.is_some.ensures ∙ c.if-is_some.false))
