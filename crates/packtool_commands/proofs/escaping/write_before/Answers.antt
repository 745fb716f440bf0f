use Rattle.streams.proofs.WritingLemmas.{Wrote-stop, Wrote-then}
use Rattle.packtool_commands.specs.Files.{escaped}
use Rattle.packtool_commands.proofs.escaping.write_before.Goals as goal

pub returns-in_err-write_escaped : goal.returns-in_err-write_escaped
returns-in_err-write_escaped g c = Wrote-stop _ (escaped c.args.name.now) _ c.from_residual.ensures.0 c.in_err-write_escaped.ensures

pub returns : goal.returns
returns g c = Wrote-then _ (escaped c.args.name.now) _ c.in_ok-write_escaped.ensures.written c.write_all.ensures
