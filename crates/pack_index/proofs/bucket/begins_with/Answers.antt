use Rattle.gix_hash.proofs.Std.{sym, ap, ◌∙◌, is_eq}
use Rattle.id_lookup.proofs.Spelled.{begins_with-place, starts_with-spelling}
use Rattle.pack_index.proofs.bucket.begins_with.Goals as goal

pub returns : goal.returns
returns g c =
    let prefix = c.args.prefix.now in
    let id = g.I.Id.digits c.args.id.now in
    c.is_eq.ensures ∙ ap is_eq c.cmp_oid.ensures
    ∙ rw c.as_oid.ensures.digits (sym (begins_with-place prefix id) ∙ starts_with-spelling id prefix.digits)
