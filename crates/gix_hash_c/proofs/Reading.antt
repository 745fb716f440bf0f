-- What reading a prefix's text gives in a struct.
use Rattle.gix_hash.proofs.Std.{◌≡◌, ℕ, ◌≤◌, false, nat_lt, Option, Some, None, Ok, List, length, refl, sym, ap, ◌∙◌, arith, ok_or, option_map, nat_tests}
use Rattle.id_lookup.specs.Words.{KindDigits, Sha256, digits_of, digits_read, hex_len_of, hex_letter, kind_digits, padded, prefix_read}
use Rattle.gix_hash.specs.declared.prefix.from_hex.Error.TheVariants.{Invalid}
use Rattle.gix_hash.proofs.ReadingLaws.{some_hex_len}
use Rattle.id_digits.proofs.ReadingFacts.{length-digits_read}
use Rattle.gix_hash_c.specs.Face.{PrefixAnswer}
use Rattle.gix_hash_c.specs.declared.prefixes.Prefix.{Prefix}

-- the digits that a text reads as, with zeros after them
pub read_answer : (text bytes : List ℕ) (old : Prefix) (read : KindDigits) → 1 ≤ length text → length text ≤ 64
    → Ok read ≡ ok_or (option_map (kind_digits Sha256) (digits_read hex_letter text)) Invalid
    → digits_of bytes ≡ padded (hex_len_of read.kind) read.digits
    → PrefixAnswer (prefix_read hex_letter 1 text) 0 old (record { hex_len = length text; bytes = bytes })
read_answer text bytes old read some most is pads = by (digits_read hex_letter text) refl is
  where
    by : (digits : Option (List ℕ)) → digits_read hex_letter text ≡ digits → Ok read ≡ ok_or (option_map (kind_digits Sha256) digits) Invalid
        → PrefixAnswer (prefix_read hex_letter 1 text) 0 old (record { hex_len = length text; bytes = bytes })
    by None e reads = cc reads
    by (Some digits) e reads =
        let kind = some_hex_len (length text) most in
        let enough : nat_lt (length text) 1 ≡ false = grind (arith, nat_tests) in
        let same : read ≡ kind_digits Sha256 digits = cc reads in
        rw (enough, kind.1, e) (
          refl,
          record {
            hex_len = sym (length-digits_read hex_letter text digits e);
            bytes = pads ∙ ap (λ (p : KindDigits). padded (hex_len_of p.kind) p.digits) same;
          },
        )
