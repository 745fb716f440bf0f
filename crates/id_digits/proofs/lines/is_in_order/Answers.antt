use Rattle.id_digits.proofs.Std.{true, false, sym, ap, ◌∙◌, is_le, is_lt}
use Rattle.id_digits.specs.Digits.{digits_of, word}
use Rattle.id_digits.proofs.LineOrder.{read_order, word_follows, same_follows}
use Rattle.id_digits.proofs.lines.is_in_order.Goals as goal

pub returns-then-before-after : goal.returns-then-before-after
returns-then-before-after c = λ _.
    word_follows 32 c.args.repeats c.args.previous.now c.args.letters.now _ _ (c.word_of_16_bytes-before.ensures ∙ ap (λ v. word 32 (digits_of v)) c.values_at.ensures)
    (c.word_of_16_bytes-after.ensures ∙ ap (λ v. word 32 (digits_of v)) c.values_at-2.ensures) c.if-before-after.true

pub returns-then-eq : goal.returns-then-eq
returns-then-eq c = λ _. rw c.if-repeats.true (same_follows c.args.previous.now c.args.letters.now (sym c.eq.ensures ∙ c.if-eq.true))

pub returns-then-repeats-2 : goal.returns-then-repeats-2
returns-then-repeats-2 c = λ h.
    rw c.if-repeats-2.true
    (read_order true c.args.previous.now c.args.letters.now c.read_digest.new.bytes c.read_digest-else-not-read_digest.new.bytes _ _ c.read_digest.ensures
    c.read_digest-else-not-read_digest.ensures c.if-not-read_digest.false c.if-not-read_digest-2.false (ap is_le (sym c.digest_cmp-order.ensures) ∙ sym c.is_le.ensures ∙ h))

pub returns-else-repeats-2 : goal.returns-else-repeats-2
returns-else-repeats-2 c = λ h.
    rw c.if-repeats-2.false
    (read_order false c.args.previous.now c.args.letters.now c.read_digest.new.bytes c.read_digest-else-not-read_digest.new.bytes _ _ c.read_digest.ensures
    c.read_digest-else-not-read_digest.ensures c.if-not-read_digest.false c.if-not-read_digest-2.false (ap is_lt (sym c.digest_cmp-order.ensures) ∙ sym c.is_lt.ensures ∙ h))
