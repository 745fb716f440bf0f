use Rattle.gix_hash.proofs.Std.{take}
use Rattle.packtool_commands.proofs.LineLemmas.{abbreviation_parts}
use Rattle.packtool_commands.proofs.line_buffer.put_abbreviated_line.Goals as goal

pub returns-clause-text : goal.returns-clause-text
returns-clause-text c = cc (abbreviation_parts (take c.args.at c.args.line.now) c.args.abbreviated.now)
