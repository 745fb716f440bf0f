use Rattle.gix_hash.proofs.Std.{arith}
use Rattle.pack_index.proofs.Counted.{length-ids_in}
use Rattle.gix_hash_c.proofs.packs.gix_hash_pack_id.Goals as goal

pub id_at-requires : goal.id_at-requires
id_at-requires c =
    rw c.id_table.ensures (omega (arith, c.if-at-num_objects.false, c.num_objects.ensures, length-ids_in c.in-Some.kind c.args.bytes.now c.in_default-tables.ensures.tables))
