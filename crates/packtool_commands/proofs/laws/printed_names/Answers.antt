use Rattle.packtool_commands.proofs.EscapeLemmas.{file_line-one_line, file_line-plain}
use Rattle.packtool_commands.proofs.laws.printed_names.Goals as goal

pub returns-clause-one_line : goal.returns-clause-one_line
returns-clause-one_line c = file_line-one_line

pub returns-clause-plain : goal.returns-clause-plain
returns-clause-plain c = file_line-plain
