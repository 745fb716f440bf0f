use Rattle.gix_hash.proofs.Std.{◌≡◌, ◌-◌, ◌*◌, ◌^◌, ◌<◌, ◌∙◌, List, ℕ, length, take, sym, ap, subst, arith, nat_tests, All-take, length-take}
use Rattle.id_lookup.specs.Words.{hex_len_of}
use Rattle.id_digits.specs.Digits.{digits_of, word}
use Rattle.id_digits.proofs.DigitNumbers.{word-padded, word-take}
use Rattle.pack_index.proofs.Fronts.{front_ones, word-first}
use Rattle.pack_index.proofs.front.Front.of.Goals as goal
use Rattle.pack_index.proofs.front.Front.of.Goals.{in-Some, in-None}

pub returns : goal.returns
returns c =
    let digits = c.args.prefix.now.digits in
    let bytes = c.as_bytes.result.now in
    let long = length-take 16 digits in
    let count : c.min-digits.result ≡ length (take 16 digits) = omega (arith, long, c.min-digits.ensures, c.hex_len.ensures.value) in
    let own = ap (λ (bs : List ℕ). word 16 (digits_of bs)) c.as_bytes.ensures.value ∙ ap (word 16) c.as_oid.ensures.digits
    ∙ word-padded 16 (hex_len_of c.args.prefix.now.kind - length digits) digits ∙ sym (word-take 16 digits) in
    record {
      in_range = All-take (λ (d : ℕ). d < 16) 16 digits c.hex_len.ensures.digits_in_range;
      most = omega (arith, long);
      number = elim c.match-first_chunk.branch [
        | in-Some w ↦ w.word-is ∙ w.word_of-word.ensures ∙ ap (λ (bs : List ℕ). word 16 (digits_of bs)) w.in-Some.ensures.cases.same ∙ word-first bytes ∙ own
        | in-None w ↦ absurd (grind (arith, nat_tests, w.in-None.ensures.cases, c.as_oid.result.length_known, ap length c.as_bytes.ensures.value))
      ];
      mask = subst (λ (d : ℕ). c.unbounded_shl.result ≡ 2 ^ 64 - 2 ^ (4 * (16 - d))) count
          (front_ones c.min-digits.result c.unbounded_shl.result (omega (arith, c.min-digits.ensures)) c.unbounded_shl.ensures);
    }
