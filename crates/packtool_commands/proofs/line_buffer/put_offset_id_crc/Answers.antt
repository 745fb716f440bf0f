use Rattle.gix_hash.proofs.Std.{take, decimal}
use Rattle.id_lookup.specs.Words.{hex_letter, oid_digits, spelling}
use Rattle.packtool_commands.specs.Files.{crc_text}
use Rattle.packtool_commands.proofs.LineLemmas.{line_parts}
use Rattle.packtool_commands.proofs.line_buffer.put_offset_id_crc.Goals as goal

pub returns-clause-text : goal.returns-clause-text
returns-clause-text c =
    cc (line_parts (take c.args.at c.args.line.now) (decimal c.args.offset) (spelling hex_letter (oid_digits c.args.id)) (crc_text c.args.crc))
