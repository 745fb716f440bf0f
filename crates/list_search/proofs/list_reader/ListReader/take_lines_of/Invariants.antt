use Rattle.gix_hash.proofs.Std.{◌≡◌, ◌-◌, ◌≤◌, length, slice_range}
use Rattle.list_search.proofs.list_reader.ListReader.take_lines_of.Given as goal
use Rattle.list_search.specs.SearchStates.{Takes}

abbrev pub invariant-loop-kind : goal.invariant-loop-kind
invariant-loop-kind g l = record {
  ok : Takes l.fn.self l.self (slice_range l.chunk l.at l.end);
  begun : l.self.len ≡ 0;
  onward : l.at ≤ l.end;
  in_chunk : l.end ≤ length l.chunk;
}

abbrev pub decreases-loop-kind : goal.decreases-loop-kind
decreases-loop-kind g l = length l.chunk - l.end
