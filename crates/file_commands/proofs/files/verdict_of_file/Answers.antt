use Rattle.file_commands.proofs.SomeBytes.{said-on-some}
use Rattle.file_commands.proofs.files.verdict_of_file.Goals as goal

pub returns : goal.returns
returns c = said-on-some c.args.kind _ c.verdict_of_index.result c.verdict_of_index.ensures
