use Rattle.gix_hash.proofs.Std.{◌≡◌, ◌+◌, ◌≤◌, [], false}
use Rattle.list_search.proofs.StopLemmas.{IsTaken}
use Rattle.list_search.proofs.reading.find_in_source.Given as goal

abbrev pub invariant-chunks : goal.invariant-chunks
invariant-chunks g l = record {
  taken : IsTaken l.query.search l.query.prefix.digits l.reader l.finder l.fn.most l.room (g.R.Source.remaining l.fn.input) (g.R.Source.remaining l.input);
  empty : l.reader.ids.items ≡ [];
  count : l.finder.count ≡ l.reader.dropped;
  short : l.reader.dropped + l.reader.len + l.room ≤ l.fn.most;
  stands : g.R.Source.has_failed l.input ≡ false;
}

abbrev pub decreases-chunks : goal.decreases-chunks
decreases-chunks g l = l.room
