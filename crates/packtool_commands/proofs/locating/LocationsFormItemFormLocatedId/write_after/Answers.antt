use Rattle.gix_hash.proofs.Std.{ap, flat_map, subst}
use Rattle.streams.specs.Streams.{Wrote}
use Rattle.streams.proofs.WritingLemmas.{Wrote-line}
use Rattle.packtool_commands.proofs.locating.LocationsFormItemFormLocatedId.write_after.Goals as goal

pub returns-in_err-write_lines_at : goal.returns-in_err-write_lines_at
returns-in_err-write_lines_at g c =
    subst (Wrote _ _ _ _ _) (ap (flat_map _) c.deref-location-items.ensures.value)
    (Wrote-line _ _ _ _ _ c.loop-location-test.true c.from_residual.ensures.0 c.loop-location.invariant.0 c.in_err-write_lines_at.ensures)
