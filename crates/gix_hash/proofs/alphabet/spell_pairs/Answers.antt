use Rattle.id_digits.proofs.Std.{ℕ, ◌<◌, ◌∙◌, All-from_get_or}
use Rattle.gix_hash.proofs.Spellings.{spelled_by_hex}
use Rattle.gix_hash.proofs.alphabet.spell_pairs.Goals as goal

pub returns : goal.returns
returns c =
    let bytes = c.args.bytes.now in
    (rw c.unwrap.ensures at c.encode_to_slice.ensures.written)
    ∙ spelled_by_hex bytes (All-from_get_or (λ (b : ℕ). b < 256) bytes 0 (λ i lt. (c.type_inv.bytes i).fits))
