use Rattle.gix_hash.proofs.Std.{◌<◌, arith, length, sym, subst, rules}
use Rattle.streams.specs.Streams.{Wrote}
use Rattle.streams.proofs.WritingLemmas.{Wrote-line}
use Rattle.packtool_commands.proofs.AnswerLemmas.{text_of_all, text_of_one}
use Rattle.packtool_commands.proofs.printing.ListFormAnswerFormVec.write.Goals as goal
use Rattle.packtool_commands.proofs.printing.ListFormAnswerFormVec.write.Goals.{in-All, in_default-wanted, in_default-wanted-via-in-One+else-len-gt1, in_default-wanted-via-in-BareOne+else-len-gt1-2, in_default-wanted-via-in_default-wanted}

pub loop-item-init : goal.loop-item-init
loop-item-init g c =
    let text = g.F.ItemForm.text c.args.self.now.item in
    let line = c.args.line.now in
    let found = c.deref-item-items.result.now in
    let some : 0 < length found = search rules in
    record {
      all = rw (c.in-Some.is, ← c.deref-item-items.ensures.value) (elim c.match-self.branch [
        | in-All w ↦ rw (w.in-All.is, w.front-is) (text_of_all text line found some)
        | in_default-wanted w ↦ rw w.front-is (elim w.in_default-wanted.branch [
          | in_default-wanted-via-in-One+else-len-gt1 w' ↦ rw w'.in-One.is (text_of_one text line found (omega arith)).0
          | in_default-wanted-via-in-BareOne+else-len-gt1-2 w' ↦ rw w'.in-BareOne.is (text_of_one text line found (omega arith)).1
          | in_default-wanted-via-in_default-wanted w' ↦ rw w'.in_default-wanted.is
        ])
      ]);
      written = search rules;
      not_failed = search rules;
    }

pub returns-in_err-write_after : goal.returns-in_err-write_after
returns-in_err-write_after g c =
    subst (Wrote _ _ _ _ _) (sym c.loop-item.invariant.all)
    (Wrote-line _ _ _ _ c.item-item.result c.loop-item-test.true c.from_residual.ensures.0 c.loop-item.invariant.written (rw (← c.item-item.is) c.in_err-write_after.ensures))
