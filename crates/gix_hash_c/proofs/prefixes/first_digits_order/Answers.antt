use Rattle.gix_hash.proofs.Std.{◌≡◌, length, sym, ◌∙◌, ap, arith}
use Rattle.id_lookup.specs.Words.{hex_len_of}
use Rattle.gix_hash_c.proofs.CommonPlace.{too_few}
use Rattle.gix_hash_c.proofs.prefixes.first_digits_order.Goals as goal

pub returns-then-hex_len-len_in_hex : goal.returns-then-hex_len-len_in_hex
returns-then-hex_len-len_in_hex c =
    let all : length c.args.bytes.now ≡ 32 = omega (arith, c.told-bytes) in
    let len = c.len_in_hex.ensures ∙ ap hex_len_of c.kind.ensures.value in
    sym (too_few c.args.hex_len c.args.bytes.now _ all (omega (arith, c.if-hex_len-len_in_hex.true, len)))
