use Rattle.streams.proofs.WritingLemmas.{Wrote-stop, Wrote-then}
use Rattle.packtool_commands.specs.Files.{escape_mark}
use Rattle.packtool_commands.proofs.escaping.write_named.Goals as goal

pub returns-in_err-write_mark : goal.returns-in_err-write_mark
returns-in_err-write_mark g c = Wrote-stop _ (escape_mark c.args.name.now) _ c.from_residual.ensures.0 c.in_err-write_mark.ensures

pub returns : goal.returns
returns g c = Wrote-then _ (escape_mark c.args.name.now) _ c.in_ok-write_mark.ensures.written c.write_before.ensures
