use Rattle.gix_hash.proofs.Std.{[], refl}
use Rattle.packtool_commands.proofs.line_buffer.put_index_line.Goals as goal

pub returns-clause-text : goal.returns-clause-text
returns-clause-text c =
    rw (c.put_offset_id_crc.ensures.text, c.pack_offset_at_index-offset.ensures, c.oid_at_index-id.ensures [], c.crc32_at_index-crc.ensures) refl
