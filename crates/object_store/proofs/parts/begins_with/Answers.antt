use Rattle.gix_hash.proofs.Std.{◌∙◌, List, ℕ, ap, sym, is_eq, arith}
use Rattle.id_lookup.specs.Words.{hex_len_of, place}
use Rattle.object_store.proofs.Prefixes.{begins_unpadded}
use Rattle.object_store.proofs.parts.begins_with.Goals as goal

pub returns-then-hex_len : goal.returns-then-hex_len
returns-then-hex_len c = λ equal.
    let prefix = c.args.prefix.now in
    let front = c.args.front.now in
    begins_unpadded (hex_len_of prefix.kind) prefix.digits front (omega (arith, c.hex_len.ensures.value, c.hex_len-2.ensures.value, c.if-hex_len.true))
    (ap (λ (ds : List ℕ). is_eq (place front.digits ds)) (sym c.as_oid.ensures.digits) ∙ ap is_eq (sym c.cmp_oid.ensures) ∙ sym c.is_eq.ensures ∙ equal)
