use Rattle.gix_hash.proofs.Std.{[], take_more}
use Rattle.packtool.proofs.Done.{done-more}
use Rattle.packtool.proofs.read_each.Goals as goal

pub loop-path-preserved : goal.loop-path-preserved
loop-path-preserved g c =
    rw (take_more c.args.request.now.paths.now c.loop-path.path-index (record { ref_ptr = (0, 0); now = [] }) c.loop-path-test.true, c.max-status.ensures)
    (done-more _ _ _ _ _ _ _ _ c.loop-path.invariant c.in_ok-read_file.ensures)
