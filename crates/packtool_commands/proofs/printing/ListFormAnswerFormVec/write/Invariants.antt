use Rattle.gix_hash.proofs.Std.{◌≡◌, ◌++◌, false, take, flat_map, option_copied, Appends}
use Rattle.std.specs.Prelude.{Vec}
use Rattle.packtool_commands.specs.Stores.{answer_of, found_text}
use Rattle.packtool_commands.proofs.printing.ListFormAnswerFormVec.write.Given as goal

abbrev pub invariant-loop-item : goal.invariant-loop-item
invariant-loop-item g l =
    let text = g.F.ItemForm.text l.self.item in
    let line = text (l.front.line.now ++ l.front.space.now) in
    record {
      all : answer_of (λ line (ids : Vec g.row.X.Denot g.row.A.Denot). found_text text l.self.wanted line ids.items) (l.line, option_copied l.found) ≡ flat_map line l.item-items;
      written : Appends (g.W.Sink.taken l.fn.out) (g.W.Sink.taken l.out) (flat_map line (take l.item-index l.item-items));
      not_failed : g.W.Sink.has_failed l.out ≡ false;
    }
