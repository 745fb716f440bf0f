use Rattle.gix_hash.proofs.Std.{◌++◌, ◌∷◌, ◌-◌, [], ap, drop, append_assoc, arith, length, length-append, length-drop, length-take, refl, sym, ◌∙◌}
use Rattle.list_search.proofs.ChunkLemmas.{line_pushed, takes_more, range_parts}
use Rattle.list_search.proofs.list_reader.ListReader.take_lines_of.Goals as goal

pub loop-kind-preserved : goal.loop-kind-preserved
loop-kind-preserved g c =
    let self = c.loop-kind.self in
    let i = c.loop-kind.invariant in
    let line = c.in-Some.ensures in
    let pushed = c.push_reserved.ensures.items in
    let chunk = c.args.chunk.now in
    record {
      ok = takes_more _ _ _ _ _ _ i.ok (record {
        taken = λ earlier text h. line_pushed (earlier ++ self.ids.items) _ self.line _ self.len text chunk c.loop-kind.end c.in-Some.next c.in-Some.id
            i.begun line h (ap (λ all. earlier ++ all) pushed ∙ sym (append_assoc earlier self.ids.items (c.in-Some.id ∷ [])));
        dropped = refl;
        short = omega (
          arith,
          ap length pushed,
          length-append self.ids.items (c.in-Some.id ∷ []),
          line.onward,
          length-take (c.in-Some.next - c.loop-kind.end) (drop c.loop-kind.end chunk),
          length-drop c.loop-kind.end chunk,
          line.in_chunk,
        );
      }) (range_parts chunk c.args.at c.loop-kind.end c.in-Some.next i.onward (omega (arith, line.onward)));
      begun = i.begun;
      onward = omega (arith, i.onward, line.onward);
      in_chunk = line.in_chunk;
    }
