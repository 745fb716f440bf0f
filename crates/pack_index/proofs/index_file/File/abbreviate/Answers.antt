use Rattle.gix_hash.proofs.Std.{◌≡◌, ◌<◌, [], length, get_or, subst, sym, slice_range}
use Rattle.id_lookup.specs.Words.{hex_len_of}
use Rattle.pack_index.specs.Format.{crc_table_start, list_of, ids_in, ids_start}
use Rattle.pack_index.proofs.Counted.{length-digests_in_at}
use Rattle.pack_index.proofs.Looked.{named_kind}
use Rattle.pack_index.proofs.index_file.File.abbreviate.Goals as goal

pub returns-clause-kind : goal.returns-clause-kind
returns-clause-kind c =
    let kind = c.self.inside.kind in
    let bytes = c.self.inside.bytes.now in
    let at = c.args.at in
    let inside : at < length (ids_in kind bytes) = rw (← c.self.view_is) at c.requires in
    let long = subst (λ names. length (get_or names at []) ≡ hex_len_of kind) (sym c.self.invariant.1)
    (length-digests_in_at kind (slice_range bytes ids_start (crc_table_start kind bytes)) at inside) in
    rw (← c.self.view_is) (named_kind kind (list_of c.self.inside.ids) at c.abbreviate.result long c.abbreviate.ensures.kind)
