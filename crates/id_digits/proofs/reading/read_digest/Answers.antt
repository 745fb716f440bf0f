use Rattle.id_digits.proofs.Std.{◌&&◌, ap, arith, length, take, refl, ◌∙◌, length-put_chunk, list_all}
use Rattle.id_digits.specs.Letters.{values_of, is_digit}
use Rattle.id_digits.proofs.LaneReading.{first_values, both_digits, tested, stored, read_values, least}
use Rattle.id_digits.proofs.reading.read_digest.Goals as goal

pub returns : goal.returns
returns c =
    let text = c.args.text.now in
    let old = c.args.bytes.now in
    let n = length old in
    let third = rw c.min.ensures at c.values_at-third.ensures in
    let last = c.values_at-last.ensures in
    let front = first_values text _ _ c.values_at-first.ensures c.values_at-second.ensures in
    let reads = c.greater.ensures ∙ both_digits is_digit c.values_at-first.result c.values_at-second.result (take 32 (values_of text)) front in
    let all = c.are_digits.ensures ∙ c.greater-3.ensures ∙ ap (λ b. list_all is_digit c.greater.result && b) c.greater-2.ensures
    ∙ tested n text _ _ c.requires.digest c.requires.len third last _ reads in
    let bytes = stored n text _ _ c.requires.digest c.requires.len third last old _ _ _ refl front c.packed.ensures (rw c.packed-2.ensures at c.put_rest.ensures) in
    read_values n text _ _ c.requires.len all bytes

pub overflow_sub-end : goal.overflow_sub-end
overflow_sub-end c = omega (arith, c.requires.len, least (length c.args.bytes.now) c.requires.digest)

pub values_at-first-requires : goal.values_at-first-requires
values_at-first-requires c = omega (arith, c.requires.len, least (length c.args.bytes.now) c.requires.digest)

pub values_at-second-requires : goal.values_at-second-requires
values_at-second-requires c = omega (arith, c.requires.len, least (length c.args.bytes.now) c.requires.digest)

pub values_at-third-requires : goal.values_at-third-requires
values_at-third-requires c = omega (arith, c.requires.len, least (length c.args.bytes.now) c.requires.digest, c.min.ensures)

pub values_at-last-requires : goal.values_at-last-requires
values_at-last-requires c = omega (arith, c.requires.len, least (length c.args.bytes.now) c.requires.digest)

pub put_rest-requires : goal.put_rest-requires
put_rest-requires c = rw (length-put_chunk 0 c.args.bytes.now c.packed.result) c.requires.digest
