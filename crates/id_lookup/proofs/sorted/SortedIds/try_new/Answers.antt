use Rattle.gix_hash.proofs.Std.{◌≡◌, ◌-◌, ◌<◌, false, [], length, map, slice_index_or, sym, ap, ◌∙◌, add-one, arith, nat_cmp, is_lt, false≢true, length-map, slice_cmp}
use Rattle.gix_hash.specs.Words.{hex_len_of}
use Rattle.id_lookup.proofs.Least.{least_hex_len-take}
use Rattle.id_lookup.proofs.Ordered.{adjacent_more, not_less}
use Rattle.id_lookup.proofs.sorted.SortedIds.try_new.Goals as goal

pub loop-at-preserved : goal.loop-at-preserved
loop-at-preserved g c =
    let ids = c.args.ids.now in
    let at = c.loop-at.at in
    let within : at < length (map g.I.Id.digits ids) = rw length-map (omega arith) in
    let stays : 0 < at → is_lt (slice_cmp nat_cmp (slice_index_or (map g.I.Id.digits ids) at []) (slice_index_or (map g.I.Id.digits ids) (at - 1) [])) ≡ false =
    λ some. not_less _ (λ falls. false≢true (sym c.if-is_below_previous.false ∙ c.is_below_previous.ensures.1 (some, falls))) in
    let long = c.len_in_hex.ensures ∙ ap hex_len_of c.kind.ensures.value ∙ sym c.kind.ensures.len ∙ ap length (c.id_at.ensures.digits []) in
    record {
      sorted = λ k d low. adjacent_more (λ a b. is_lt (slice_cmp nat_cmp b a) ≡ false) (map g.I.Id.digits ids) at within
          (λ j e. c.loop-at.invariant.sorted j e (omega arith)) stays k d;
      least = rw add-one (omega (arith, c.min-min_hex_len.ensures, long, c.loop-at.invariant.least, least_hex_len-take (map g.I.Id.digits ids) at [] within));
    }
