use Rattle.gix_hash.proofs.Std.{◌<◌, [], length-set, below_more, refl, ap, subst, ◌∙◌, arith, map, All, get_or-replicate, get_or_default, length-map}
use Rattle.gix_hash.specs.Words.{first_byte_of}
use Rattle.id_lookup.proofs.FirstByteCounts.{one_more}
use Rattle.id_lookup.proofs.fan_out.first_bytes.Goals as goal

pub loop-at-init : goal.loop-at-init
loop-at-init g c = record { len = refl; counted = λ b small. get_or-replicate 256 b 0 0 small; digits = λ k h. absurd (omega arith) }

pub loop-at-preserved : goal.loop-at-preserved
loop-at-preserved g c =
    let ids = map g.I.Id.digits c.args.ids.now in
    let at = c.loop-at.at in
    let so_far = c.loop-at.invariant in
    let all = length-map c.args.ids.now g.I.Id.digits in
    let here = c.id_at.ensures.digits [] in
    let byte = c.from.ensures ∙ c.first_byte.ensures ∙ ap first_byte_of here in
    record {
      len = rw length-set so_far.len;
      counted = one_more c.loop-at.counts ids at c.from.result so_far.len (omega arith) (omega arith) byte so_far.counted;
      digits = below_more _ _ so_far.digits (subst (λ id. All (λ d. d < 16) id) here c.id_at.ensures.digits_in_range);
    }

pub returns-clause-digits : goal.returns-clause-digits
returns-clause-digits g c k d inside =
    let all = length-map c.args.ids.now g.I.Id.digits in
    rw (get_or_default (map g.I.Id.digits c.args.ids.now) k d [] inside) (c.loop-at.invariant.digits k (omega arith))
