use Rattle.gix_hash.proofs.Std.{◌<◌, inl, inr, refl, sym, arith}
use Rattle.pack_index.specs.Format.{num_objects}
use Rattle.pack_index.proofs.Counted.{length-ids_in}
use Rattle.gix_hash_c.proofs.packs.gix_hash_pack_abbreviate.Goals as goal

pub shortest_at-requires : goal.shortest_at-requires
shortest_at-requires c =
    rw c.id_table.ensures (omega (arith, c.if-at-num_objects.false, c.num_objects.ensures, length-ids_in c.in-Some.kind c.args.bytes.now c.in_default-tables.ensures.tables))

pub returns-in-None : goal.returns-in-None
returns-in-None c =
    let inside : c.args.at < num_objects c.args.bytes.now = omega (arith, c.if-at-num_objects.false, c.num_objects.ensures) in
    rw (sym c.in-Some.ensures) (inr (refl, inl (refl, (c.in_default-tables.ensures.head, c.in_default-tables.ensures.tables), inside, rw c.id_table.ensures at (c.in-None.ensures.none refl))))
