use Rattle.id_digits.proofs.Std.{length, refl}
use Rattle.id_digits.specs.Digits.{digits_of}
use Rattle.gix_hash.specs.Ids.{oid_bytes}
use Rattle.id_digits.proofs.ReverseLetters.{spelling-reverse_of_hex}
use Rattle.gix_hash.proofs.Spellings.{cut_and_rest}
use Rattle.gix_hash.proofs.KindFacts.{hex_len_of-kind}
use Rattle.id_digits.proofs.Spellings.{All-digits_of}
use Rattle.gix_hash.proofs.IdFacts.{length-oid}
use Rattle.gix_hash.proofs.alphabet.Alphabet.put_id.Goals as goal

pub returns-in-Reverse-clause-value : goal.returns-in-Reverse-clause-value
returns-in-Reverse-clause-value c =
    let bytes = c.as_bytes-bytes.result.now in
    let two = hex_len_of-kind (length (oid_bytes c.args.id)) c.args.id.length_known in
    let ends = cut_and_rest (digits_of bytes) bytes c.args.buffer.now refl in
    rw (
      c.in-Reverse.is,
      two,
      ← c.as_bytes-bytes.ensures.value,
      c.to_reverse_letters.ensures,
      c.spell_digest.ensures,
      ends.0,
      ends.1,
      spelling-reverse_of_hex (digits_of bytes) (All-digits_of bytes c.as_bytes-bytes.ensures.bytes_in_range),
    ) refl

pub returns-in_default-clause-value : goal.returns-in_default-clause-value
returns-in_default-clause-value c =
    let two = hex_len_of-kind (length (oid_bytes c.args.id)) c.args.id.length_known in
    rw (c.in_default.is, two, ← c.as_bytes-bytes.ensures.value, c.spell_digest.ensures) refl

pub returns-in-Reverse-clause-len : goal.returns-in-Reverse-clause-len
returns-in-Reverse-clause-len c = length-oid c.args.id

pub returns-in_default-clause-len : goal.returns-in_default-clause-len
returns-in_default-clause-len c = length-oid c.args.id
