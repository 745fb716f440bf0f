use Rattle.gix_hash.proofs.Std.{◌≡◌, ℕ, List, length, arith, sym, ap, ◌∙◌, take-append-le, take_all}
use Rattle.sha1.specs.declared.Sha1.{Sha1}
use Rattle.gix_hash_c.proofs.hashers.sha1_to_c.Goals as goal

pub returns-clause-state : goal.returns-clause-state
returns-clause-state c =
    let fields = c.sha1_fields-fields.result in let words = c.copy_from_slice.new.self in
    let with : List ℕ → Sha1 = λ h. record { h = h; buffer = fields.buffer; total = fields.total } in
    let five : length words ≡ 5 = ap length c.copy_from_slice.ensures.after ∙ omega arith in
    sym c.sha1_fields-fields.ensures ∙ ap with (sym c.copy_from_slice.ensures.after ∙ sym (take_all 5 words (omega (arith, five)))
    ∙ sym (take-append-le 5 words _ (omega (arith, five))))
