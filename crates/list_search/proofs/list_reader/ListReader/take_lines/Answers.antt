use Rattle.gix_hash.proofs.Std.{length, ap, arith, slice_range}
use Rattle.list_search.proofs.ChunkLemmas.{takes_more, range_parts}
use Rattle.list_search.proofs.list_reader.ListReader.take_lines.Goals as goal

pub returns-clause-ok : goal.returns-clause-ok
returns-clause-ok g c =
    let items = c.reserve.ensures.items in
    let middle = c.take_lines_of-middle.ensures in
    let chunk = c.args.chunk.now in
    takes_more c.args.self.now c.take_lines_of-middle.new.self c.take_lines_of.new.self (slice_range chunk c.args.at c.take_lines_of-middle.result) _ _
    (record {
      taken = λ earlier text h. middle.ok.taken earlier text (rw items h);
      dropped = middle.ok.dropped;
      short = omega (arith, middle.ok.short, ap length items);
    }) c.take_lines_of.ensures.ok (range_parts chunk c.args.at c.take_lines_of-middle.result c.take_lines_of.result middle.onward.0 c.take_lines_of.ensures.onward.0)
