use Rattle.gix_hash.proofs.Std.{◌≡◌, ◌∙◌, ◌++◌, ◌∷◌, ◌+◌, [], ℕ, List, None, Option, slice_index_or, rules, append-nil, append_assoc, ap, arith, drop, drop_all, drop_more, flat_map, map, option_copied, refl, sym, subst, flat_map-append, flat_map_more, Appends, Appends-trans}
use Rattle.std.proofs.lemmas.List.Sums.{fold-append}
use Rattle.std.specs.Option.{option_or}
use Rattle.std.specs.Prelude.{fold}
use Rattle.streams.specs.Streams.{AppendsBeginning}
use Rattle.streams.proofs.WritingLemmas.{AppendsBeginning-after, AppendsBeginning-more, OnErr-of}
use Rattle.packtool_commands.specs.Stores.{answer_of, answers_by, no_answer_by, with_found}
use Rattle.packtool_commands.proofs.AnswerLemmas.{first_why, mark}
use Rattle.packtool_commands.proofs.printing.write_answers.Goals as goal

pub loop-line-init : goal.loop-line-init
loop-line-init g c = record { before = []; parts = refl; written = search rules; first = refl; not_failed = c.requires }

pub returns-in_err-write-clause-part : goal.returns-in_err-write-clause-part
unfolding answers_by
returns-in_err-write-clause-part g c =
    let text = answer_of (g.F.AnswerForm.text c.args.form.now) in
    let i = c.loop-line.invariant in
    let at = c.loop-line.line-index in
    let seen = c.deref-line-items.result.now in
    let same : seen ≡ c.args.lines.now.lines.items = c.deref-line-items.ensures.value in
    let rest = map mark (drop (at + 1) seen) in
    let more = with_found rest c.answer_to.result.1.now in
    let step = ap (λ ls. with_found (map mark ls) c.loop-line.left.now) (drop_more seen at _ c.loop-line-test.true) ∙ c.answer_to.ensures rest in
    let all = ap (λ ls. i.before ++ with_found (map mark (drop at ls)) c.loop-line.left.now) same ∙ i.parts ∙ ap (λ ls. with_found ls c.args.found.now) c.args.lines.now.are_lines in
    OnErr-of _ _ (subst (AppendsBeginning (g.W.Sink.taken c.args.out.now) (g.W.Sink.taken c.write.new.out))
    (sym (flat_map-append text i.before (_ ∷ more)) ∙ ap (flat_map text) (ap (λ ls. i.before ++ ls) (sym step) ∙ all))
    (AppendsBeginning-after _ (g.W.Sink.taken c.loop-line.out) _ (flat_map text i.before) _ i.written
    (AppendsBeginning-more _ _ _ (flat_map text more) c.in_err-write.ensures.part)))

pub returns-clause-written : goal.returns-clause-written
unfolding answers_by
returns-clause-written g c =
    let i = c.loop-line.invariant in
    let items = c.args.lines.now.lines.items in
    let none : [] ≡ drop c.loop-line.line-index items = sym (drop_all c.loop-line.line-index items (omega (arith, c.loop-line-test.false, c.deref-line-items.ensures.len))) in
    let all = sym (append-nil i.before) ∙ ap (λ ls. i.before ++ with_found (map mark ls) c.loop-line.left.now) none ∙ i.parts ∙ ap (λ ls. with_found ls c.args.found.now) c.args.lines.now.are_lines in
    subst (Appends (g.W.Sink.taken c.args.out.now) (g.W.Sink.taken c.loop-line.out)) (ap (flat_map (answer_of (g.F.AnswerForm.text c.args.form.now))) all) i.written

pub returns-clause-why : goal.returns-clause-why
unfolding no_answer_by
returns-clause-why g c =
    let i = c.loop-line.invariant in
    let items = c.args.lines.now.lines.items in
    let none : [] ≡ drop c.loop-line.line-index items = sym (drop_all c.loop-line.line-index items (omega (arith, c.loop-line-test.false, c.deref-line-items.ensures.len))) in
    let all = sym (append-nil i.before) ∙ ap (λ ls. i.before ++ with_found (map mark ls) c.loop-line.left.now) none ∙ i.parts ∙ ap (λ ls. with_found ls c.args.found.now) c.args.lines.now.are_lines in
    i.first ∙ ap (fold (first_why (g.F.AnswerForm.no_answer c.args.form.now)) None) all

pub loop-line-preserved : goal.loop-line-preserved
loop-line-preserved g c =
    let text = answer_of (g.F.AnswerForm.text c.args.form.now) in
    let i = c.loop-line.invariant in
    let at = c.loop-line.line-index in
    let seen = c.deref-line-items.result.now in
    let same : seen ≡ c.args.lines.now.lines.items = c.deref-line-items.ensures.value in
    let rest = map mark (drop (at + 1) seen) in
    let answer : List ℕ × Option g.row.T.Denot = ((slice_index_or seen at _).text.now, option_copied c.answer_to.result.0) in
    let step = ap (λ ls. with_found (map mark ls) c.loop-line.left.now) (drop_more seen at _ c.loop-line-test.true) ∙ c.answer_to.ensures rest in
    let later = first_why (g.F.AnswerForm.no_answer c.args.form.now) in
    record {
      before = i.before ++ answer ∷ [];
      parts = append_assoc i.before (answer ∷ []) _ ∙ ap (λ ls. i.before ++ answer ∷ with_found (map mark (drop (at + 1) ls)) c.answer_to.result.1.now) (sym same)
          ∙ ap (λ ls. i.before ++ ls) (sym step) ∙ ap (λ ls. i.before ++ with_found (map mark (drop at ls)) c.loop-line.left.now) same ∙ i.parts;
      written = subst (Appends (g.W.Sink.taken c.args.out.now) (g.W.Sink.taken c.write.new.out)) (flat_map_more text [] i.before answer)
          (Appends-trans _ _ _ (flat_map text i.before) (text answer) i.written c.in_ok-write.ensures.written);
      first = c.or-why.ensures ∙ ap (λ why. option_or why c.no_answer.result) i.first ∙ ap (option_or (fold later None i.before)) c.no_answer.ensures
          ∙ sym (fold-append later None i.before (answer ∷ []));
      not_failed = c.in_ok-write.ensures.not_failed;
    }
