use Rattle.gix_hash.proofs.Std.{◌≡◌, ◌≤◌, ◌∷◌, [], length, take, subst, sym, arith}
use Rattle.gix_hash.specs.Words.{KindDigits, digits_of, hex_len_of, kind_digits}
use Rattle.gix_hash.specs.declared.Kind.{Kind}
use Rattle.gix_hash.specs.declared.Kind.TheVariants.{Sha1, Sha256}
use Rattle.file_commands.proofs.multi.ids_with.Goals as goal

two : (kind : Kind) → 2 ≤ hex_len_of kind
two Sha1 = omega arith
two Sha256 = omega arith

pub part-requires-clause-enough : goal.part-requires-clause-enough
unfolding digits_of
part-requires-clause-enough g c =
    let made : c.unwrap-prefix.result ≡ kind_digits c.object_hash.result (take 2 (digits_of (c.args.byte ∷ []))) =
    let read = c.from_packed_digits.ensures.some (two c.object_hash.result) (omega arith) in let unwrapped = c.unwrap-prefix.ensures in cc in
    subst (λ (p : KindDigits). 2 ≤ length p.digits) (sym made) (omega arith)
