use Rattle.gix_hash.proofs.Std.{arith}
use Rattle.pack_index.proofs.Counted.{length-ids_in}
use Rattle.pack_index.proofs.index_file.File.crc32_at_index.Goals as goal

pub crc_in-requires-clause-in_range : goal.crc_in-requires-clause-in_range
crc_in-requires-clause-in_range c =
    let inside = rw (← c.self.view_is) at c.requires in
    omega (arith, inside, length-ids_in c.self.inside.kind c.self.inside.bytes.now c.self.invariant.0.ids.tables)
