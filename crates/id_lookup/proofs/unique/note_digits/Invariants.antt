use Rattle.gix_hash.proofs.Std.{AllWithin}
use Rattle.gix_hash.specs.Words.{AreIdDigits, id_digits, id_kind}
use Rattle.id_lookup.proofs.unique.note_digits.Given as goal

abbrev pub invariant-loop-id : goal.invariant-loop-id
invariant-loop-id l = AllWithin (λ id. AreIdDigits (id_kind id) (id_digits id)) l.ids 0 l.id-index
