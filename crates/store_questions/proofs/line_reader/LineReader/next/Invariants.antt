use Rattle.gix_hash.proofs.Std.{◌<◌, ◌-◌, ◌^◌, drop, count_by, Consumes}
use Rattle.store_questions.specs.WholeLines.{AreWhole, HasNoLineFeed, is_line_feed}
use Rattle.store_questions.specs.LineReaders.{chunk, held, to_come}
use Rattle.store_questions.proofs.line_reader.LineReader.next.Given as goal

abbrev pub invariant-loop-self : goal.invariant-loop-self
invariant-loop-self g l = record {
  lines : Consumes (to_come g.R.Read.remaining l.fn.self) (to_come g.R.Read.remaining l.self) (chunk l.self);
  whole : AreWhole (chunk l.self);
  full : count_by is_line_feed (chunk l.self) < 8192 → HasNoLineFeed (drop l.self.chunk_len (held l.self));
}

abbrev pub decreases-loop-self : goal.decreases-loop-self
decreases-loop-self g l = 2 ^ 64 - l.self.filled
