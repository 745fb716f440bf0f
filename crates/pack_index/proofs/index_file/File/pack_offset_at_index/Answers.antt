use Rattle.gix_hash.proofs.Std.{arith}
use Rattle.pack_index.proofs.Counted.{length-ids_in}
use Rattle.pack_index.proofs.index_file.File.pack_offset_at_index.Goals as goal

pub offset_in-requires-clause-in_range : goal.offset_in-requires-clause-in_range
offset_in-requires-clause-in_range c =
    let inside = rw (← c.self.view_is) at c.requires in
    omega (arith, inside, length-ids_in c.self.inside.kind c.self.inside.bytes.now c.self.invariant.0.ids.tables)

pub offset_in-requires-clause-has : goal.offset_in-requires-clause-has
offset_in-requires-clause-has c = c.self.invariant.0.offsets.in_table c.args.at (offset_in-requires-clause-in_range c)
