use Rattle.id_digits.proofs.Std.{◌≡◌, ℕ, ◌*◌, ◌++◌, ◌<◌, All, take, drop, subst, sym, arith, IsAscii, All-take}
use Rattle.gix_hash.specs.Reading.{letter_of}
use Rattle.gix_hash.specs.Ids.{oid_digits, shown_digits}
use Rattle.id_digits.specs.Digits.{hex_letter, spelling}
use Rattle.gix_hash.proofs.Alphabets.{letter_of-ascii}
use Rattle.id_digits.proofs.ReverseLetters.{spelling-reverse_of_hex}
use Rattle.gix_hash.proofs.IdFacts.{digits_in_range-oid}
use Rattle.id_digits.proofs.Spellings.{IsAscii-spelling}
use Rattle.gix_hash.proofs.Spellings.{take-spelled}
use Rattle.gix_hash.proofs.display.CutId.letters.Goals as goal
use Rattle.gix_hash.proofs.display.CutId.letters.Goals.{Joined-alphabet, in-Reverse, in_default}

-- the front of the buffer holds the digits that are shown, in hex
in_hex : (c : Joined-alphabet)
    → take c.min-len.result (c.spell_pairs.new.text ++ drop (2 * c.div_ceil-whole.result) c.args.buffer.now)
    ≡ spelling hex_letter (shown_digits c.args.self.now)
in_hex c =
    let bytes = c.as_bytes-bytes.result.now in
    rw (c.spell_pairs.ensures, c.as_bytes-bytes.ensures.value) (rw c.as_bytes-bytes.ensures.value at (take-spelled c.args.self.now.hex_len c.min-len.result c.div_ceil-whole.result bytes
    (drop (2 * c.div_ceil-whole.result) c.args.buffer.now) c.min-len.ensures (omega (arith, c.div_ceil-whole.ensures)) (omega (arith, c.min-len.ensures, c.div_ceil-whole.ensures))))

-- each of them is below sixteen
in_range : (c : Joined-alphabet) → All (λ d. d < 16) (shown_digits c.args.self.now)
in_range c = let cut = c.args.self.now in All-take (λ (d : ℕ). d < 16) cut.hex_len (oid_digits cut.inner) (digits_in_range-oid cut.inner)

pub returns-clause-value : goal.returns-clause-value
returns-clause-value c =
    elim c.match-alphabet.branch [
      | in-Reverse w ↦ rw (w.in-Reverse.is, w.letters-is, w.to_reverse_letters.ensures, in_hex c) (spelling-reverse_of_hex (shown_digits c.args.self.now) (in_range c))
      | in_default w ↦ rw (w.in_default.is, w.letters-is) (in_hex c)
    ]

pub returns-clause-ascii : goal.returns-clause-ascii
returns-clause-ascii c =
    subst IsAscii (sym (returns-clause-value c)) (IsAscii-spelling (letter_of c.args.alphabet) (letter_of-ascii c.args.alphabet) (shown_digits c.args.self.now) (in_range c))
