use Rattle.gix_hash.proofs.Std.{◌<◌, inl, inr, refl, sym, ◌∙◌, arith, false≢true}
use Rattle.pack_index.specs.Format.{num_objects}
use Rattle.pack_index.proofs.Counted.{length-ids_in}
use Rattle.gix_hash_c.proofs.packs.gix_hash_pack_entry.Goals as goal

pub returns-then-not-has_offset : goal.returns-then-not-has_offset
returns-then-not-has_offset c =
    let inside : c.args.at < num_objects c.args.bytes.now = omega (arith, c.if-at-num_objects.false, c.num_objects.ensures) in
    rw (sym c.in-Some.ensures) (inr (
      refl,
      inr (inl (
        refl,
        (c.in_default-tables.ensures.head, c.in_default-tables.ensures.tables),
        inside,
        λ has. false≢true (sym c.if-not-has_offset.true ∙ c.has_offset.ensures.1 has),
      )),
    ))

pub id_at-requires : goal.id_at-requires
id_at-requires c =
    rw c.id_table.ensures (omega (arith, c.if-at-num_objects.false, c.num_objects.ensures, length-ids_in c.in-Some.kind c.args.bytes.now c.in_default-tables.ensures.tables))
