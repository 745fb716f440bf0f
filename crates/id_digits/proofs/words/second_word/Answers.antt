use Rattle.id_digits.proofs.Std.{◌≡◌, ℕ, List, ◌-◌, length, take, drop, sym, ap, ◌∙◌, arith, take_all, length-drop}
use Rattle.id_digits.specs.Digits.{digits_of, word}
use Rattle.id_digits.proofs.ByteDigits.{drop-digits_of}
use Rattle.id_digits.proofs.words.second_word.Goals as goal

-- the digits of the bytes after the first sixteen are those after the first 32 digits
word-rest : (bytes : List ℕ) → word 32 (digits_of (take (length bytes - 16) (drop 16 bytes))) ≡ word 32 (drop 32 (digits_of bytes))
word-rest bytes =
    let rest : take (length bytes - 16) (drop 16 bytes) ≡ drop 16 bytes =
    take_all (length bytes - 16) (drop 16 bytes) (omega (arith, length-drop 16 bytes)) in
    ap (λ (bs : List ℕ). word 32 (digits_of bs)) rest ∙ ap (word 32) (sym (drop-digits_of 16 bytes))

pub returns-then-rest-eq4 : goal.returns-then-rest-eq4
returns-then-rest-eq4 c = c.word_of_4_bytes.ensures ∙ word-rest c.args.bytes.now

pub returns-else-rest-eq4 : goal.returns-else-rest-eq4
returns-else-rest-eq4 c = c.word_of_16_bytes.ensures ∙ word-rest c.args.bytes.now
