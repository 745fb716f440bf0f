use Rattle.gix_hash.proofs.Std.{ℕ, List, ◌++◌, take, sym, ap, subst, ◌∙◌, arith, flat_map, take_all}
use Rattle.object_store.proofs.Held.{flat_map-take}
use Rattle.packtool_commands.specs.Files.{KeepsBack}
use Rattle.packtool_commands.specs.Stores.{abbreviated_line}
use Rattle.packtool_commands.proofs.KeptLines.{keeps_more, keeps_stop, keeps_written, lines_split}
use Rattle.streams.specs.Streams.{Wrote}
use Rattle.packtool_commands.proofs.abbreviating.write_abbreviated.Goals as goal

pub loop-id-preserved : goal.loop-id-preserved
loop-id-preserved g c =
    let text = c.put_abbreviated_line-end.ensures.text ∙ ap (λ (l : List ℕ). take c.in_ok-at.at c.loop-id.lines ++ l) (ap abbreviated_line c.id-item.is) in (
      subst (KeepsBack _ _ _) (sym (flat_map-take abbreviated_line c.args.abbreviated.now c.loop-id.id-index _ c.loop-id-test.true))
          (keeps_more _ _ _ _ _ _ _ _ c.loop-id.invariant.0 c.in_ok-at.ensures.kept text),
      c.in_ok-at.ensures.not_failed,
      omega (arith, c.in_ok-at.ensures.room, c.put_abbreviated_line-end.ensures.most),
    )

pub returns-in_err-at : goal.returns-in_err-at
returns-in_err-at g c =
    subst (Wrote _ _ _ _ _) (sym (lines_split abbreviated_line c.args.abbreviated.now c.loop-id.id-index))
    (keeps_stop c.loop-id.out _ _ _ _ c.from_residual.ensures.0 c.loop-id.invariant.0 c.in_err-at.ensures.part c.in_err-at.ensures.failed)

pub returns : goal.returns
returns g c =
    keeps_written _ _ _
    (subst (KeepsBack _ _ _) (ap (flat_map abbreviated_line) (take_all c.loop-id.id-index c.args.abbreviated.now c.loop-id-test.false)) c.loop-id.invariant.0)
    c.write_all.ensures
