use Rattle.gix_hash.proofs.Std.{◌≤◌, ◌<◌, ◌∙◌, ℕ, length, nat_cmp, bit_and, sym, arith, All-from_get_or}
use Rattle.id_digits.specs.Digits.{digits_of}
use Rattle.id_digits.proofs.ByteDigits.{length-digits_of}
use Rattle.id_digits.proofs.Spellings.{All-digits_of}
use Rattle.pack_index.proofs.Fronts.{place-word}
use Rattle.pack_index.proofs.front.Front.place.Goals as goal

pub returns : goal.returns
returns c = λ digits is.
    let bytes = c.args.bytes.now in
    let theirs = All-digits_of bytes (All-from_get_or (λ (b : ℕ). b < 256) bytes 0 (λ i lt. c.fits-bytes i)) in
    let long : 16 ≤ length (digits_of bytes) = omega (arith, length-digits_of bytes, c.told-bytes) in
    c.cmp.ensures ∙ (λ i. nat_cmp (is.number i) (bit_and (c.word_of.ensures i) (is.mask i)))
    ∙ sym (place-word digits (digits_of bytes) is.in_range theirs is.most long)
