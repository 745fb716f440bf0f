use Rattle.gix_hash.proofs.Std.{◌-◌, ◌≤◌, length, take}
use Rattle.list_search.proofs.list_reader.ListReader.take_chunk.Given as goal
use Rattle.list_search.specs.SearchStates.{Takes}

abbrev pub invariant-loop-at : goal.invariant-loop-at
invariant-loop-at g l = record {
  ok : Takes l.fn.self l.self (take l.at l.chunk);
  in_chunk : l.at ≤ length l.chunk;
}

abbrev pub decreases-loop-at : goal.decreases-loop-at
decreases-loop-at g l = length l.chunk - l.at
