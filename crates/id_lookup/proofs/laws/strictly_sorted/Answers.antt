use Rattle.gix_hash.proofs.Std.{◌≡◌, length, All}
use Rattle.gix_hash.specs.Words.{hex_len_of, id_digits, id_kind}
use Rattle.id_lookup.proofs.OneKind.{index-of_kind, kind-of_index}
use Rattle.id_lookup.proofs.laws.strictly_sorted.Goals as goal

pub returns : goal.returns
returns c =
    let long : All (λ id. length (id_digits id) ≡ hex_len_of (id_kind id)) c.args.ids.now = λ k d low. (c.note_digits.ensures k d low).0 in
    λ strict. (kind-of_index c.args.kind c.args.ids.now long, index-of_kind c.args.kind c.args.ids.now long strict)
