use Rattle.gix_hash.proofs.Std.{◌≤◌, length, map, subst}
use Rattle.gix_hash.specs.Words.{hex_len_of}
use Rattle.id_lookup.proofs.Indexes.{index-can_probe}
use Rattle.id_lookup.proofs.index.IdIndex.probes.Goals as goal

pub over-requires : goal.over-requires
over-requires g c =
    let same = rw (← c.self.view_is) at c.requires in
    index-can_probe c.self.inside.kind (map g.I.Id.digits c.self.inside.ids.now) c.args.prefix.now c.self.invariant.0
    (subst (λ kind. length c.args.prefix.now.digits ≤ hex_len_of kind) same (rw c.hex_len-hex_len.ensures.value at c.hex_len-hex_len.ensures.at_most_kind))
