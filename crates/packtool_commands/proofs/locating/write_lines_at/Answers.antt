use Rattle.streams.proofs.WritingLemmas.{Wrote-line}
use Rattle.packtool_commands.proofs.locating.write_lines_at.Goals as goal

pub returns-in_err-write_location-in-Loose : goal.returns-in_err-write_location-in-Loose
returns-in_err-write_location-in-Loose g c =
    rw (c.in-Loose.is, ← c.deref-path-items.ensures.value)
    (Wrote-line _ _ _ _ c.path-item.result c.loop-path-test.true c.from_residual.ensures.0 c.loop-path.invariant.0
    (rw (← c.path-item.is, ← c.as_str.ensures.value) c.in_err-write_location-in-Loose.ensures))
