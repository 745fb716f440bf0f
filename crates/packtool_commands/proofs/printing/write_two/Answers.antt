use Rattle.streams.proofs.WritingLemmas.{Wrote-stop, Wrote-then}
use Rattle.packtool_commands.proofs.printing.write_two.Goals as goal

pub returns-in_err-write_all : goal.returns-in_err-write_all
returns-in_err-write_all g c = Wrote-stop _ _ _ c.from_residual.ensures.0 c.in_err-write_all.ensures

pub returns : goal.returns
returns g c = Wrote-then _ _ _ c.in_ok-write_all.ensures.written c.write_all-2.ensures
