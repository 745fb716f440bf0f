use Rattle.gix_hash.proofs.Std.{map, ◌∙◌, arith, length-map}
use Rattle.id_lookup.proofs.Neighbours.{unique_by}
use Rattle.id_lookup.proofs.abbreviations.unique_len.Goals as goal

pub returns : goal.returns
returns g c sorted =
    let all = length-map c.args.ids.now g.I.Id.digits in
    rw c.max.ensures (unique_by (map g.I.Id.digits c.args.ids.now) sorted c.args.at _ _ (omega (arith, all, c.requires))
    c.digits_before.ensures.none c.digits_before.ensures.some (λ last. c.digits_after.ensures.none (last ∙ all)) (λ more. c.digits_after.ensures.some (omega (arith, all, more))))
