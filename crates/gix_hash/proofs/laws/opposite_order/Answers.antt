use Rattle.id_digits.proofs.Std.{sym, ap, ◌∙◌, ordering_reverse}
use Rattle.gix_hash.specs.Kinds.{hex_len_of}
use Rattle.gix_hash.proofs.SpellingLaws.{id_cmp-digits, opposite_spellings}
use Rattle.gix_hash.proofs.laws.opposite_order.Goals as goal

pub returns : goal.returns
returns c =
    let first = c.args.first.now in
    let second = c.args.second.now in
    let len = c.kind.ensures.len ∙ ap hex_len_of c.requires ∙ sym c.kind-2.ensures.len in
    opposite_spellings _ _ len c.kind.ensures.digits_in_range c.kind-2.ensures.digits_in_range
    ∙ ap ordering_reverse (sym (id_cmp-digits first second c.requires))
