use Rattle.gix_hash.proofs.Std.{◌≡◌, ap, ◌∙◌, count_by}
use Rattle.gix_hash.specs.Words.{first_byte_of}
use Rattle.id_lookup.specs.Runs.{is_below, is_up_to}
use Rattle.id_lookup.proofs.FirstByteCounts.{are_candidates}
use Rattle.id_lookup.proofs.FirstByteOrder.{are_digits, last_byte_is, last_byte_of}
use Rattle.id_lookup.proofs.search.candidates.Goals as goal

pub returns-clause-part : goal.returns-clause-part
returns-clause-part g c =
    let prefix = c.args.probes.now.prefix in
    let ids = c.args.probes.now.ids in
    let small = rw c.prefix-prefix.ensures.value at c.hex_len.ensures.digits_in_range in
    let len = rw c.prefix-prefix.ensures.value at c.hex_len.ensures.value in
    let first : c.first_byte-first.result ≡ first_byte_of prefix.digits = rw c.prefix-prefix.ensures.value at c.first_byte-first.ensures in
    let last : c.last_byte-last.result ≡ last_byte_of prefix.digits =
    last_byte_is _ _ _ _ len first c.last_byte-last.ensures.none c.last_byte-last.ensures.one c.last_byte-last.ensures.more in
    are_candidates prefix ids c.prefix-prefix.ensures.can_probe (are_digits _ small) c.requires.digits _
    (c.below.ensures ids c.requires ∙ ap (λ b. count_by (is_below b) ids) first)
    (c.up_to.ensures.count ids c.requires ∙ ap (λ b. count_by (is_up_to b) ids) last)
