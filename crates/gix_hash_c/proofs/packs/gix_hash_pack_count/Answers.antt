use Rattle.gix_hash.proofs.Std.{inl, refl, sym, ◌∙◌}
use Rattle.pack_index.proofs.Counted.{length-ids_in}
use Rattle.gix_hash_c.proofs.packs.gix_hash_pack_count.Goals as goal

pub returns-in-Ok : goal.returns-in-Ok
returns-in-Ok c =
    rw (sym c.in-Some.ensures) (inl (
      refl,
      (c.in-Ok.ensures.head, c.in-Ok.ensures.tables),
      c.num_objects.ensures ∙ sym (length-ids_in c.in-Some.kind c.args.bytes.now c.in-Ok.ensures.tables),
    ))
