use Rattle.id_digits.proofs.Std.{◌≡◌, ◌+◌, ◌-◌, ◌/◌, ◌<◌, ◌≤◌, suc, refl, sym, ap, ap₂, subst, ◌∙◌, arith, length, length-take, take, get_or, [], true, eqb, ◌&&◌, IsTrue, nat_cmp, and_parts, not-false, get_or_default, slice_cmp}
use Rattle.id_digits.specs.Digits.{digits_of, word}
use Rattle.id_digits.specs.Letters.{line_values, may_follow, IsIdLine}
use Rattle.id_digits.proofs.LineOrder.{line_of, line_before, line_before-is, line_word, word_none, word_follows, letters_tested, one_more, none_left}
use Rattle.id_digits.proofs.lines.are_sorted_lines.Goals as goal
use Rattle.id_digits.proofs.lines.are_sorted_lines.Goals.{else-word-before-via-then-word-before+else-not-is_in_order, then-at-eq0, else-at-eq0, else-word-before-via-else-word-before}

pub loop-at-init : goal.loop-at-init
loop-at-init g c = record { word = word_none g.row.LINE; sorted = λ all sorted. sorted }

pub loop-at-preserved : goal.loop-at-preserved
loop-at-preserved g c =
    let len = g.row.LINE in
    let is_line = line_of len c.requires in
    let long : len - 1 ≤ length c.index-lines-at.result = omega (arith, length-take (len - 1) c.index-lines-at.result) in
    let lines = c.args.lines.now in
    let at = c.loop-at.at in
    let line = c.index-lines-at.result in
    let inside : at < length lines = omega arith in
    let there : line ≡ get_or lines at [] = c.index-lines-at.is ∙ get_or_default lines at _ [] inside in
    let next : at + 1 ≡ suc at = omega arith in
    let is_word : c.first_word-word.result ≡ line_word len (get_or lines at []) =
    c.first_word-word.ensures ∙ ap (λ v. word 16 (digits_of v)) c.values_at-first.ensures ∙ ap (line_word len) there in
    let follows : IsTrue (may_follow c.args.repeats (slice_cmp nat_cmp (line_values (len - 1) (line_before lines at)) (line_values (len - 1) (get_or lines at [])))) =
    elim c.else-word-before.branch [
      | else-word-before-via-then-word-before+else-not-is_in_order w ↦ elim w.if-at-eq0.branch [
        | then-at-eq0 v ↦ let zero : eqb at 0 ≡ true = rw v.if-at-eq0.true refl in cc (zero, v.value-is, w.if-not-is_in_order.false)
        | else-at-eq0 v ↦ rw (line_before-is lines at (omega (arith, v.if-at-eq0.false)), ← there, ← (v.index-lines-at-else-at-eq0.is ∙ get_or_default lines (at - 1) _ [] (omega arith)))
            (v.is_in_order.ensures (not-false _ (sym v.value-is ∙ w.if-not-is_in_order.false)))
      ]
      | else-word-before-via-else-word-before w ↦
          word_follows 16 c.args.repeats (take (len - 1) (line_before lines at)) (take (len - 1) (get_or lines at [])) c.loop-at.before c.first_word-word.result c.loop-at.invariant.word is_word w.if-word-before.false
    ] in
    record {
      word = rw next is_word;
      sorted = λ all.
          let old = and_parts _ _ (sym c.greater-greatest.ensures ∙ all) in
          let both = ap₂ (λ a b. a && b) (sym c.greater-front.ensures) (sym c.greater-rest.ensures) ∙ sym c.greater.ensures ∙ old.1 in
          let tested = letters_tested ((len - 1) / 2) len is_line line c.values_at-first.result c.values_at-in-loop-at-2.result c.values_at.result c.values_at-in-loop-at.result
          c.min.result (len - 1 - 16) long refl c.min.ensures c.values_at-first.ensures c.values_at-in-loop-at-2.ensures
          c.values_at.ensures c.values_at-in-loop-at.ensures in
          let whole : IsIdLine (len - 1) (get_or lines at []) = subst (IsIdLine (len - 1)) there record {
            long = long;
            feed = c.if-line-ne-LINE_FEED.false;
            digits = sym tested ∙ both;
          } in
          one_more (len - 1) c.args.repeats lines at inside whole follows (c.loop-at.invariant.sorted old.0);
    }

pub returns : goal.returns
returns g c = λ all.
    none_left (g.row.LINE - 1) c.args.repeats c.args.lines.now c.loop-at.at (omega arith) (c.loop-at.invariant.sorted (sym c.are_digits.ensures ∙ all))
