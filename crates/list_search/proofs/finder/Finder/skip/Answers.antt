use Rattle.gix_hash.proofs.Std.{[], ◌-◌, sym, ◌∙◌, append-nil, arith}
use Rattle.list_search.proofs.FinderLemmas.{is_none, found_further}
use Rattle.list_search.proofs.SkippedLines.{lines_counted}
use Rattle.list_search.proofs.finder.Finder.skip.Goals as goal

pub returns-in-Some-clause-skipped : goal.returns-in-Some-clause-skipped
returns-in-Some-clause-skipped g c =
    let said = c.in-Some.ensures in
    let none = is_none c.args.self.now.refusal (sym c.is_some.ensures ∙ c.if-is_some.false) in
    let many = lines_counted (g.row.LINE - 1) c.args.lines.now said.ids said.each in
    λ skips. record {
      ids = said.ids;
      each = said.each;
      counted = omega (arith, many);
      found = λ ids h. found_further _ _ ids _ _ h said.ids (omega (arith, many)) [] (g.row.LINE - 1) none none (sym (append-nil _)) said.is_last
          c.min-self.ensures (said.in_order _) said.least (λ short. sym said.none);
    }
