use Rattle.packtool_commands.proofs.OnePrefix.{bare-printed}
use Rattle.packtool_commands.proofs.laws.bare_is_printed.Goals as goal

pub returns : goal.returns
returns g c = bare-printed
