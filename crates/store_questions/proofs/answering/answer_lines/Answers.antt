use Rattle.gix_hash.proofs.Std.{[], ◌++◌, ◌≡◌, Err, ap, append-nil, append_assoc, arith, length, nat_tests, nil_from_length, refl, suc, sym, zero, ◌∙◌}
use Rattle.std.proofs.KnownBytes.{Keeps-refl}
use Rattle.store_questions.proofs.FromStores.{of_kept}
use Rattle.streams.specs.Devices.{plain_inner}
use Rattle.streams.specs.Streams.{lines_of}
use Rattle.store_questions.specs.Answers.{IsAnswered}
use Rattle.store_questions.proofs.LineLemmas.{whole-after}
use Rattle.store_questions.proofs.Parts.{part-more}
use Rattle.store_questions.proofs.answering.answer_lines.Goals.{in-Ok, in-Err-TooMany}
use Rattle.store_questions.proofs.answering.answer_lines.Goals as goal

pub loop-init : goal.loop-init
loop-init g c = record {
  same = refl;
  output = c.requires.output;
  whole = c.requires.whole;
  before = [];
  lines = refl;
  n = zero;
  parts = (refl, refl, Keeps-refl _);
}

pub loop-preserved : goal.loop-preserved
loop-preserved g c =
    let i = c.loop.invariant in
    let part = c.first_lines.result.0.now in
    let part_whole = c.first_lines.ensures.whole i.whole in elim c.match-write_lines.branch [
      | in-Ok w ↦ let said : IsAnswered g.R.Directories.answers c.args.asked.now.query c.args.wanted (lines_of part) w.in-Ok.ended.0
          (g.W.Write.contents (plain_inner c.loop.out)) (g.W.Write.contents (plain_inner c.write_lines.new.out)) =
          rw (← i.same) (of_kept _ _ c.write_lines.new.self.kept w.in-Ok.ensures.answered (λ store is. (_, _, _, _, _, _, is))) in rw (w.rest-is, w.status-is) (record {
            same = c.write_lines.ensures.same ∙ i.same;
            output = w.in-Ok.ensures.output;
            whole = whole-after _ part c.first_lines.result.1.now c.first_lines.ensures.all i.whole part_whole;
            before = i.before ++ part;
            lines = i.lines ∙ ap (λ rest. i.before ++ rest) c.first_lines.ensures.all ∙ sym (append_assoc i.before _ _);
            n = suc i.n;
            parts = part-more g.R.Directories.answers c.args.asked.now.query c.args.wanted i.n i.before part c.loop.status w.in-Ok.ended.0 _ (g.W.Write.contents (plain_inner c.args.out.now))
                (g.W.Write.contents (plain_inner c.loop.out)) (g.W.Write.contents (plain_inner c.write_lines.new.out)) i.parts said part_whole w.max-status.ensures;
          })
      | in-Err-TooMany w ↦ rw (w.rest-is, w.status-is, w.in-Err-TooMany.ensures.untouched (ap Err w.in-Err-TooMany.field-0-is)) (record {
        same = c.write_lines.ensures.same ∙ i.same;
        output = i.output;
        whole = i.whole;
        before = i.before;
        lines = i.lines;
        n = i.n;
        parts = i.parts;
      })
    ]

pub returns-then-is_empty-clause-answered : goal.returns-then-is_empty-clause-answered
returns-then-is_empty-clause-answered g c =
    let i = c.loop.invariant in
    let none : length c.loop.rest.now ≡ 0 = grind (arith, nat_tests, c.is_empty.ensures, c.if-is_empty.true) in
    (i.n, rw (i.lines ∙ ap (λ rest. i.before ++ rest) (nil_from_length _ none) ∙ append-nil i.before) i.parts)
