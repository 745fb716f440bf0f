use Rattle.streams.proofs.WritingLemmas.{Wrote-stop, Wrote-then}
use Rattle.packtool_commands.proofs.finding.IdFormItemFormObjectId.write_after.Goals as goal

pub returns-in_err-write_two : goal.returns-in_err-write_two
returns-in_err-write_two g c = Wrote-stop _ _ _ c.from_residual.ensures.0 c.in_err-write_two.ensures

pub returns : goal.returns
returns g c = Wrote-then _ _ _ c.in_ok-write_two.ensures.written c.write_id.ensures
