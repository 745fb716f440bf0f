use Rattle.gix_hash.proofs.Std.{◌≤◌, length, subst, arith, slice_range}
use Rattle.id_lookup.specs.Words.{hex_len_of}
use Rattle.pack_index.specs.Format.{crc_table_start, ids_start}
use Rattle.pack_index.proofs.Counted.{digests_in-reach}
use Rattle.pack_index.proofs.index_file.File.find_prefix.Goals as goal

pub find-requires-clause-enough_digits : goal.find-requires-clause-enough_digits
find-requires-clause-enough_digits c =
    let same = rw (← c.self.view_is) at c.requires in
    let fits = subst (λ kind. length c.args.prefix.now.digits ≤ hex_len_of kind) same (rw c.hex_len-hex_len.ensures.value at c.hex_len-hex_len.ensures.at_most_kind) in
    let kind = c.self.inside.kind in
    let bytes = c.self.inside.bytes.now in
    rw c.self.invariant.1 (omega (arith, fits, digests_in-reach kind (slice_range bytes ids_start (crc_table_start kind bytes))))
