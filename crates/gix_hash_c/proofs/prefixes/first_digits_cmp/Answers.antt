use Rattle.gix_hash.proofs.Std.{sym, ap, ◌∙◌, arith}
use Rattle.id_lookup.specs.Words.{byte_len_of, digits_of, oid_kind}
use Rattle.gix_hash_c.proofs.CommonPlace.{place-apart, place-common}
use Rattle.gix_hash_c.proofs.prefixes.first_digits_cmp.Goals as goal

pub returns-then-common_hex_len-hex_len : goal.returns-then-common_hex_len-hex_len
returns-then-common_hex_len-hex_len c =
    c.cmp.ensures
    ∙ sym (place-apart (oid_kind c.args.id) c.args.hex_len c.len_in_bytes.result c.args.bytes.now _ _ c.requires
    (c.len_in_bytes.ensures ∙ ap byte_len_of c.kind.ensures.value) c.told-bytes c.kind.ensures.len (ap digits_of c.from_bytes_unchecked-own.ensures)
    (omega (arith, c.common_hex_len.ensures.value, c.if-common_hex_len-hex_len.true)))

pub returns-else-common_hex_len-hex_len : goal.returns-else-common_hex_len-hex_len
returns-else-common_hex_len-hex_len c =
    sym (place-common (oid_kind c.args.id) c.args.hex_len c.len_in_bytes.result c.args.bytes.now _ _ c.requires
    (c.len_in_bytes.ensures ∙ ap byte_len_of c.kind.ensures.value) c.told-bytes c.kind.ensures.len (ap digits_of c.from_bytes_unchecked-own.ensures)
    (omega (arith, c.common_hex_len.ensures.value, c.if-common_hex_len-hex_len.false)))
