use Rattle.gix_hash.proofs.Std.{◌≡◌, ◌∙◌, [], get_or, map, sym, ap, is_lt, get_or-map}
use Rattle.id_lookup.specs.Words.{oid_digits}
use Rattle.pack_index.proofs.bucket.is_below.Goals as goal

pub returns : goal.returns
returns g c =
    let digits : get_or (map g.I.Id.digits c.args.ids.now) c.args.at [] ≡ oid_digits c.as_oid.result =
    get_or-map g.I.Id.digits c.args.ids.now c.args.at c.index-ids-at.result [] c.requires ∙ ap g.I.Id.digits (sym c.index-ids-at.is) ∙ sym c.as_oid.ensures.digits in
    rw digits (c.is_lt.ensures ∙ ap is_lt c.cmp.ensures)
