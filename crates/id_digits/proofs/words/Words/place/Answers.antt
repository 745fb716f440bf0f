use Rattle.id_digits.proofs.Std.{◌≡◌, ◌<◌, ◌≤◌, ◌-◌, ◌*◌, ℕ, List, length, drop, take, sym, ap, ◌∙◌, arith, Ordering, Equal, nat_cmp, ordering_then, All-drop, All-from_get_or}
use Rattle.id_digits.specs.Digits.{digits_of, word}
use Rattle.id_digits.specs.declared.words.Words.{Words}
use Rattle.id_digits.proofs.Masks.{word-masked}
use Rattle.id_digits.proofs.NumberParts.{then_decided}
use Rattle.id_digits.proofs.ByteDigits.{length-digits_of}
use Rattle.id_digits.proofs.Spellings.{All-digits_of}
use Rattle.id_digits.proofs.WordOrder.{place-first_word, place-words}
use Rattle.id_digits.proofs.words.Words.place.Goals as goal

-- n digits are among those of the bytes
among : (n : ℕ) (bytes : List ℕ) → n ≤ 2 * length bytes → n ≤ length (digits_of bytes)
among n bytes h = omega (arith, length-digits_of bytes)

pub returns-then-hex_len-le-WORD_DIGITS : goal.returns-then-hex_len-le-WORD_DIGITS
returns-then-hex_len-le-WORD_DIGITS c = λ digits below words is reach.
    let bytes = c.args.bytes.now in
    let n = c.args.hex_len in
    let es = digits_of bytes in
    let theirs = All-digits_of bytes (All-from_get_or (λ (b : ℕ). b < 256) bytes 0 (λ i lt. (c.type_inv.bytes i).fits)) in
    let within = c.if-hex_len-le-WORD_DIGITS.true in
    let masked = word-masked _ _ n es theirs within c.word_of_16_bytes.ensures c.front_mask.ensures in
    let own : c.args.self.now.first ≡ word 32 digits = ap (λ (w : Words). w.first) words in
    c.cmp.ensures ∙ (λ i. nat_cmp (own i) (masked i)) ∙ sym (place-first_word n digits es below theirs is (among n bytes reach) within)

pub returns-in-Equal : goal.returns-in-Equal
returns-in-Equal c = λ digits below words is reach.
    let bytes = c.args.bytes.now in
    let n = c.args.hex_len in
    let es = digits_of bytes in
    let theirs = All-digits_of bytes (All-from_get_or (λ (b : ℕ). b < 256) bytes 0 (λ i lt. (c.type_inv.bytes i).fits)) in
    let masked = word-masked _ _ (n - 32) (drop 32 es) (All-drop (λ (x : ℕ). x < 16) 32 es theirs) (omega (arith, c.requires.most))
    c.second_word.ensures c.front_mask-in-Equal.ensures in
    let first : nat_cmp (word 32 digits) (word 32 es) ≡ Equal =
    sym (c.cmp-else-hex_len-le-WORD_DIGITS.ensures
    ∙ (λ i. nat_cmp (ap (λ (w : Words). w.first) words i) (c.word_of_16_bytes-else-hex_len-le-WORD_DIGITS.ensures i)))
    ∙ c.in-Equal.is in
    c.cmp-in-Equal.ensures ∙ (λ i. nat_cmp (ap (λ (w : Words). w.second) words i) (masked i))
    ∙ sym (place-words n digits es below theirs is (among n bytes reach) (omega arith) c.requires.most
    ∙ ap (λ (o : Ordering). ordering_then o (nat_cmp (word 32 (drop 32 digits)) (word 32 (take (n - 32) (drop 32 es))))) first)

pub returns-in_default : goal.returns-in_default
returns-in_default c = λ digits below words is reach.
    let bytes = c.args.bytes.now in
    let n = c.args.hex_len in
    let es = digits_of bytes in
    let theirs = All-digits_of bytes (All-from_get_or (λ (b : ℕ). b < 256) bytes 0 (λ i lt. (c.type_inv.bytes i).fits)) in
    let first = c.cmp-else-hex_len-le-WORD_DIGITS.ensures
    ∙ (λ i. nat_cmp (ap (λ (w : Words). w.first) words i) (c.word_of_16_bytes-else-hex_len-le-WORD_DIGITS.ensures i)) in
    let second = nat_cmp (word 32 (drop 32 digits)) (word 32 (take (n - 32) (drop 32 es))) in
    first ∙ sym (then_decided (nat_cmp (word 32 digits) (word 32 es)) second (λ ties. c.in_default.not-Equal (first ∙ ties)))
    ∙ sym (place-words n digits es below theirs is (among n bytes reach) (omega arith) c.requires.most)
