use Rattle.id_digits.proofs.Std.{◌≡◌, ◌<◌, ◌+◌, ◌-◌, ◌/◌, ◌%◌, ◌^◌, ℕ, List, suc, drop, get_or, ◌∙◌, arith, get_or-drop, All-drop}
use Rattle.id_digits.specs.Digits.{word}
use Rattle.id_digits.proofs.DigitNumbers.{AreDigits, word-digit}
use Rattle.gix_hash.proofs.laws.digits_in_words.Goals as goal

-- a digit of one word
in_word : (ds : List ℕ) → AreDigits ds → (at : ℕ) → at < 32 → word 32 ds / 16 ^ (31 - at) % 16 ≡ get_or ds at 0
in_word ds h at lt =
    let all : at + suc (31 - at) ≡ 32 = omega arith in
    rw all at (word-digit at (31 - at) ds h)

pub returns-clause-first : goal.returns-clause-first
returns-clause-first c = in_word c.args.prefix.now.digits c.hex_len-len.ensures.digits_in_range

pub returns-clause-second : goal.returns-clause-second
returns-clause-second c = λ at lt.
    let ds = c.args.prefix.now.digits in
    in_word (drop 32 ds) (All-drop (λ (d : ℕ). d < 16) 32 ds c.hex_len-len.ensures.digits_in_range) at lt ∙ get_or-drop 32 ds at 0
