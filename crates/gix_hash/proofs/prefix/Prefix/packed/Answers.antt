use Rattle.id_digits.proofs.Std.{◌≡◌, take, ap, ◌∙◌}
use Rattle.id_digits.specs.Digits.{digits_of}
use Rattle.gix_hash.specs.Ids.{id_digits}
use Rattle.gix_hash.specs.Prefixes.{kind_digits}
use Rattle.gix_hash.proofs.Packing.{length-first, take-padded}
use Rattle.gix_hash.proofs.prefix.Prefix.packed.Goals as goal

-- the digits before the zeros are those that were asked for
pub returns : goal.returns
returns c =
    let kind = c.padded_bytes.ensures.kind in
    let digits : take c.args.hex_len (id_digits c.padded_bytes.result) ≡ take c.args.hex_len (digits_of c.args.front.now) =
    ap (take c.args.hex_len) c.padded_bytes.ensures.digits
    ∙ take-padded c.args.hex_len _ _ (length-first c.args.hex_len c.args.front.now c.requires.digits) in
    c.padded.ensures ∙ (λ i. kind_digits (kind i) (digits i))
