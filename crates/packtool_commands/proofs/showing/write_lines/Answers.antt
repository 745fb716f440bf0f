use Rattle.gix_hash.proofs.Std.{◌<◌, ◌≤◌, ap, arith, length, subst, sym, take_all, flat_map, range_with_len, length-range_with_len}
use Rattle.pack_index.specs.Format.{ids_in}
use Rattle.packtool_commands.specs.Files.{KeepsBack, index_line}
use Rattle.packtool_commands.proofs.KeptLines.{keeps_more, keeps_stop, keeps_written, lines_more, lines_split}
use Rattle.streams.specs.Streams.{Wrote}
use Rattle.packtool_commands.proofs.showing.write_lines.Goals as goal

pub loop-index-preserved : goal.loop-index-preserved
loop-index-preserved g c =
    let line = index_line c.args.file.now.kind c.args.file.now.bytes in
    let count = length (ids_in c.args.file.now.kind c.args.file.now.bytes) in
    let low : c.loop-index.index < count = omega (arith, c.loop-index-test.true, c.num_objects-count.ensures) in (
      subst (KeepsBack _ _ _) (sym (lines_more line count c.loop-index.index low))
          (keeps_more _ _ _ _ _ _ _ _ c.loop-index.invariant.0 c.in_ok-at.ensures.kept c.put_index_line-end.ensures.text),
      c.in_ok-at.ensures.not_failed,
      omega (arith, c.in_ok-at.ensures.room, c.put_index_line-end.ensures.most),
    )

pub returns-in_err-at : goal.returns-in_err-at
returns-in_err-at g c =
    let line = index_line c.args.file.now.kind c.args.file.now.bytes in
    subst (Wrote _ _ _ _ _) (sym (lines_split line (range_with_len 0 (length (ids_in c.args.file.now.kind c.args.file.now.bytes))) c.loop-index.index))
    (keeps_stop c.loop-index.out _ _ _ _ c.from_residual.ensures.0 c.loop-index.invariant.0 c.in_err-at.ensures.part c.in_err-at.ensures.failed)

pub returns : goal.returns
returns g c =
    let line = index_line c.args.file.now.kind c.args.file.now.bytes in
    let indexes = range_with_len 0 (length (ids_in c.args.file.now.kind c.args.file.now.bytes)) in
    let all : length indexes ≤ c.loop-index.index =
    omega (arith, c.loop-index-test.false, c.num_objects-count.ensures, length-range_with_len 0 (length (ids_in c.args.file.now.kind c.args.file.now.bytes))) in
    keeps_written _ _ _ (subst (KeepsBack _ _ _) (ap (flat_map line) (take_all c.loop-index.index indexes all)) c.loop-index.invariant.0) c.write_all.ensures
