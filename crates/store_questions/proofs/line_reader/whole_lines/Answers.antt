use Rattle.gix_hash.proofs.Std.{◌≡◌, false, ap, get_or, cond, arith, nat_tests, take-length, count_by_more_no, count_by_more_yes, sum_by-take-drop}
use Rattle.store_questions.specs.WholeLines.{is_line_feed}
use Rattle.store_questions.proofs.LineLemmas.{whole-more}
use Rattle.store_questions.proofs.line_reader.whole_lines.Goals.{then-bytes-at-eq10+else-count-ge-MAX_LINES, else-bytes-at-eq10}
use Rattle.store_questions.proofs.line_reader.whole_lines.Goals as goal

pub loop-at-preserved : goal.loop-at-preserved
loop-at-preserved c = elim c.if-bytes-at-eq10.branch [
  | then-bytes-at-eq10+else-count-ge-MAX_LINES w ↦
      let bytes = c.args.bytes.now in
      let more = count_by_more_yes is_line_feed bytes c.loop-at.at 0 (omega arith) (ap is_line_feed w.if-bytes-at-eq10.true) in
      grind (arith, more, whole-more bytes c.loop-at.at)
  | else-bytes-at-eq10 w ↦
      let no : is_line_feed (get_or c.args.bytes.now c.loop-at.at 0) ≡ false = grind (arith, nat_tests) in
      grind (arith, count_by_more_no is_line_feed c.args.bytes.now c.loop-at.at 0 (omega arith) no)
]

pub returns-after-loop-at-clause-all : goal.returns-after-loop-at-clause-all
returns-after-loop-at-clause-all c _ =
    grind (arith, take-length c.args.bytes.now, sum_by-take-drop (λ byte. cond (is_line_feed byte) 1 0) c.args.bytes.now c.loop-at.len)

pub returns-then-count-ge-MAX_LINES-clause-whole :
    goal.returns-then-count-ge-MAX_LINES-clause-whole
returns-then-count-ge-MAX_LINES-clause-whole c = grind (arith, whole-more)
