use Rattle.id_digits.proofs.Std.{◌≡◌, ◌<◌, ◌-◌, ℕ, List, length, ap, subst, ◌∙◌, All}
use Rattle.id_digits.specs.Digits.{digits_of, padded, words_of}
use Rattle.gix_hash.specs.Ids.{id_bytes}
use Rattle.id_digits.proofs.DigitNumbers.{word-padded, word-padded_from}
use Rattle.id_digits.proofs.Spellings.{All-digits_of}
use Rattle.gix_hash.proofs.prefix.Prefix.padded.Goals as goal

-- zeros after the digits do not change their words
words_of-padded : (n : ℕ) (digits : List ℕ) → words_of (padded n digits) ≡ words_of digits
words_of-padded n digits =
    let first = word-padded 32 (n - length digits) digits in
    let second = word-padded_from 32 32 (n - length digits) digits in
    λ i. record { first = first i; second = second i }

pub invariant_of-result : goal.invariant_of-result
invariant_of-result c = record {
  within = c.requires.within;
  zeros = c.requires.zeros;
  digits_in_range = All-digits_of (id_bytes c.args.bytes) (subst (All (λ b. b < 256)) c.as_slice.ensures.value c.as_slice.ensures.bytes_in_range);
  words = c.of.ensures ∙ ap (λ (bs : List ℕ). words_of (digits_of bs)) c.as_slice.ensures.value ∙ ap words_of c.requires.zeros ∙ words_of-padded _ _;
}
