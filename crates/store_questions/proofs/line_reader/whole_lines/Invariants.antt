use Rattle.gix_hash.proofs.Std.{◌≡◌, ◌≤◌, ◌<◌, take, count_by}
use Rattle.store_questions.specs.WholeLines.{AreWhole, is_line_feed}
use Rattle.store_questions.proofs.line_reader.whole_lines.Given as goal

abbrev pub invariant-loop-at : goal.invariant-loop-at
invariant-loop-at l = record {
  bound : l.len ≤ l.at;
  whole : AreWhole (take l.len l.bytes);
  count : l.count ≡ count_by is_line_feed (take l.len l.bytes);
  all : l.count ≡ count_by is_line_feed (take l.at l.bytes);
  most : l.count < 8192;
}
