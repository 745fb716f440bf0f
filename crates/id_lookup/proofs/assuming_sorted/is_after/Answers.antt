use Rattle.gix_hash.proofs.Std.{◌<◌, [], length, map, ap, ◌∙◌, arith, length-map}
use Rattle.gix_hash.specs.Words.{place}
use Rattle.id_lookup.proofs.Least.{least_hex_len-le}
use Rattle.id_lookup.proofs.Placed.{before_bound_at}
use Rattle.id_lookup.proofs.assuming_sorted.is_after.Goals as goal

pub cmp_oid-requires : goal.cmp_oid-requires
cmp_oid-requires g c =
    let ids = map g.I.Id.digits c.args.ids.now in
    let all = length-map c.args.ids.now g.I.Id.digits in
    let inside : c.args.at < length ids = omega (arith, all, c.requires.in_range) in
    omega (arith, c.requires.enough_digits, least_hex_len-le ids c.args.at [] inside, ap length (c.id_at.ensures.digits []), c.id_at.ensures.len)

pub returns : goal.returns
returns g c sorted =
    let ids = map g.I.Id.digits c.args.ids.now in
    let all = length-map c.args.ids.now g.I.Id.digits in
    let inside : c.args.at < length ids = omega (arith, all, c.requires.in_range) in
    c.comes_after.ensures
    ∙ before_bound_at c.args.bound c.args.prefix.now ids sorted c.args.at inside c.cmp_oid.result (λ d. c.cmp_oid.ensures ∙ ap (place c.args.prefix.now.digits) (c.id_at.ensures.digits d))
