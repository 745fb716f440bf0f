use Rattle.id_digits.proofs.Std.{◌<◌, ℕ, ◌∙◌, sym, ap₂, nat_cmp, All-from_get_or}
use Rattle.id_digits.proofs.FirstWords.{tied_words, untied_words}
use Rattle.id_digits.proofs.order.digest_cmp.Goals as goal

pub returns-then-is_eq : goal.returns-then-is_eq
returns-then-is_eq c =
    let one = All-from_get_or (λ (b : ℕ). b < 256) c.args.one.now 0 (λ i lt. (c.type_inv.one i).fits) in
    let other = All-from_get_or (λ (b : ℕ). b < 256) c.args.other.now 0 (λ i lt. (c.type_inv.other i).fits) in
    tied_words c.args.one.now c.args.other.now c.requires.one c.requires.other one other c.cmp-order.result
    (c.cmp-order.ensures ∙ ap₂ nat_cmp c.first_word.ensures c.first_word-2.ensures) c.cmp.result (sym c.is_eq.ensures ∙ c.if-is_eq.true) c.cmp.ensures

pub returns-else-is_eq : goal.returns-else-is_eq
returns-else-is_eq c =
    let one = All-from_get_or (λ (b : ℕ). b < 256) c.args.one.now 0 (λ i lt. (c.type_inv.one i).fits) in
    let other = All-from_get_or (λ (b : ℕ). b < 256) c.args.other.now 0 (λ i lt. (c.type_inv.other i).fits) in
    untied_words c.args.one.now c.args.other.now c.requires.one c.requires.other one other c.cmp-order.result
    (c.cmp-order.ensures ∙ ap₂ nat_cmp c.first_word.ensures c.first_word-2.ensures) (sym c.is_eq.ensures ∙ c.if-is_eq.false)
