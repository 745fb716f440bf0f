use Rattle.id_digits.proofs.Std.{sym, ap, ◌∙◌}
use Rattle.gix_hash.specs.Kinds.{hex_len_of}
use Rattle.gix_hash.specs.Ids.{oid_digits}
use Rattle.gix_hash.proofs.Spellings.{IsAscii-front}
use Rattle.gix_hash.proofs.borrowed.oid.front_text.Goals as goal

pub ascii_text-requires : goal.ascii_text-requires
ascii_text-requires c =
    let len = c.kind.ensures.len ∙ sym (c.len_in_hex.ensures ∙ ap hex_len_of c.kind.ensures.value) in
    IsAscii-front (oid_digits c.args.self.now) _ _ _ c.requires.1 len c.kind.ensures.digits_in_range
