use Rattle.id_digits.proofs.Std.{◌≡◌, ◌-◌, [], true, drop, list_all}
use Rattle.id_digits.specs.Letters.{AreSortedLines, is_digit}
use Rattle.id_digits.proofs.LineOrder.{line_word, line_before}
use Rattle.id_digits.proofs.lines.are_sorted_lines.Given as goal

abbrev pub invariant-loop-at : goal.invariant-loop-at
invariant-loop-at g l = record {
  word : l.before ≡ line_word g.row.LINE (line_before l.lines l.at);
  sorted : list_all is_digit l.greatest ≡ true → AreSortedLines (g.row.LINE - 1) l.repeats (line_before l.lines l.at) (drop l.at l.lines)
      → AreSortedLines (g.row.LINE - 1) l.repeats [] l.lines;
}
