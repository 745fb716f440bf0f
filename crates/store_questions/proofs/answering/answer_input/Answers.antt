use Rattle.gix_hash.proofs.Std.{rules, [], ◌++◌, ◌≡◌, false, Consumes, option_map, refl, subst, sym, zero, ◌∙◌}
use Rattle.std.proofs.KnownBytes.{Consumes-nil, Consumes-trans, Keeps-refl}
use Rattle.std.specs.Io.Buffered.{writer_contents}
use Rattle.streams.specs.Devices.{plain_inner}
use Rattle.store_questions.specs.Answers.{HasAnsweredParts}
use Rattle.store_questions.specs.WholeLines.{made_whole}
use Rattle.store_questions.specs.LineReaders.{chunk}
use Rattle.store_questions.proofs.LineLemmas.{all-read}
use Rattle.store_questions.proofs.Parts.{parts-append, parts-kept}
use Rattle.store_questions.proofs.answering.answer_input.Goals as goal

pub loop-init : goal.loop-init
loop-init g c =
    let known = option_map made_whole (g.I.Read.remaining c.args.input) in record {
      same = refl;
      output = c.requires;
      text = [];
      read = subst (λ left. Consumes known left []) (sym c.in_ok-reader.ensures.lines) (Consumes-nil known);
      n = zero;
      parts = (refl, refl, Keeps-refl _);
    }

pub returns-then-not-branch-clause-answered : goal.returns-then-not-branch-clause-answered
returns-then-not-branch-clause-answered g c =
    let i = c.loop.invariant in
    let over : c.in_ok-next.field-0 ≡ false = search rules in
    (i.text, all-read _ _ _ i.text (chunk c.next.new.self) i.read c.next.ensures.lines (c.in_ok-next.ensures.none over) (c.in_ok-next.ensures.any over), i.n, i.parts)

pub loop-preserved : goal.loop-preserved
loop-preserved g c =
    let i = c.loop.invariant in
    let lines = chunk c.next.new.self in
    let answers = g.R.Directories.answers in
    let query = c.args.asked.now.query in
    let old = writer_contents g.W.Write.contents (plain_inner c.args.out.now) in
    let before = writer_contents g.W.Write.contents (plain_inner c.loop.out) in
    let after = writer_contents g.W.Write.contents (plain_inner c.answer_lines-ran.new.out) in
    let ran = c.in_ok-ran.ensures.answered in
    let parts : HasAnsweredParts answers query c.args.wanted ran.0 lines c.in_ok-ran.field-0 before after = rw (← i.same, ← c.lines.ensures) ran.1 in
    let more = parts-append answers query c.args.wanted i.n ran.0 i.text lines c.loop.status c.in_ok-ran.field-0 c.max-status.result old before after i.parts parts c.max-status.ensures in record {
      same = c.answer_lines-ran.ensures.same ∙ i.same;
      output = c.in_ok-flushed.ensures.output;
      text = i.text ++ lines;
      read = Consumes-trans _ _ _ i.text lines i.read c.next.ensures.lines;
      n = more.0;
      parts = parts-kept answers query c.args.wanted more.0 (i.text ++ lines) c.max-status.result old after _ more.1 c.flushed.ensures.bytes;
    }
