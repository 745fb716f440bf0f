use Rattle.id_digits.proofs.Std.{◌≡◌, ◌*◌, ◌/◌, length, get_or, suc, ◌∙◌, arith, length-take-le}
use Rattle.gix_hash.proofs.FrontReading.{even_read, odd_read, one_left}
use Rattle.gix_hash.proofs.alphabet.decode_hex.Goals as goal

pub returns-then-text-eq0 : goal.returns-then-text-eq0
returns-then-text-eq0 c =
    let text = c.args.text.now in
    let zeros = c.args.zeros.now in
    let k = length text / 2 in
    let cut = length-take-le k zeros (omega (arith, c.requires.room)) in
    even_read k (length zeros) text _ zeros _ (omega (arith, c.if-text-eq0.true)) (c.decode_pairs-reads.auto.bytes ∙ cut) c.requires.zeros
    c.decode_pairs-reads.ensures

pub returns : goal.returns
returns c =
    let text = c.args.text.now in
    let zeros = c.args.zeros.now in
    let k = length text / 2 in
    let odd : length text ≡ suc (2 * k) = omega (arith, c.if-text-eq0.false) in
    let cut = length-take-le k zeros (omega (arith, c.requires.room)) in
    odd_read k (length zeros) (get_or text (2 * k) 0) _ text _ c.decode_pairs-last_reads.new.bytes zeros _ _ (one_left (2 * k) text odd) (c.decode_pairs-reads.auto.bytes ∙ cut)
    (omega (arith, c.requires.room, odd)) c.requires.zeros (one_left 0 _ c.decode_pairs-last_reads.auto.bytes)
    c.decode_pairs-reads.ensures c.decode_pairs-last_reads.ensures
