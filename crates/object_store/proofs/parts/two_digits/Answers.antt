use Rattle.gix_hash.proofs.Std.{◌≡◌, ◌∙◌, ◌≤◌, ◌∷◌, [], take, ap, arith}
use Rattle.id_lookup.specs.Words.{Kind, KindDigits, Sha1, Sha256, digits_of, first_byte_of, hex_len_of, kind_digits}
use Rattle.object_store.proofs.parts.two_digits.Goals as goal

two : (kind : Kind) → 2 ≤ hex_len_of kind
two Sha1 = omega arith
two Sha256 = omega arith

pub returns-clause-digits : goal.returns-clause-digits
unfolding digits_of
returns-clause-digits c =
    let made : c.unwrap.result ≡ kind_digits c.args.kind (take 2 (digits_of (c.args.byte ∷ []))) =
    let read = c.from_packed_digits.ensures.some (two c.args.kind) (omega arith) in let unwrapped = c.unwrap.ensures in cc in
    ap (λ (p : KindDigits). p.digits) made

pub returns-clause-byte : goal.returns-clause-byte
returns-clause-byte c = ap first_byte_of (returns-clause-digits c) ∙ omega arith
