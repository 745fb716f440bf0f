use Rattle.gix_hash.proofs.Std.{◌≡◌, ◌++◌, false, refl, rules, arith}
use Rattle.streams.specs.Streams.{is_line_feed}
use Rattle.list_search.proofs.ChunkLemmas.{longer_taken}
use Rattle.list_search.proofs.list_reader.ListReader.take_byte.Goals as goal

pub returns-clause-ok : goal.returns-clause-ok
returns-clause-ok g c =
    let self = c.args.self.now in
    let plain : is_line_feed c.args.byte ≡ false = search rules in
    record {
      taken = λ earlier text h.
          longer_taken (earlier ++ self.ids.items) self.line self.len text h _ c.args.byte plain (c.store_byte.ensures h.last h.last_len h.last_kept);
      dropped = refl;
      short = omega arith;
    }
