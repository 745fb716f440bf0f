use Rattle.gix_hash.proofs.Std.{◌<◌, ◌∙◌, [], length, map, max, refl, arith, length-map, true_from_ne_false}
use Rattle.id_lookup.proofs.Indexes.{index-sorted, same_kind}
use Rattle.id_lookup.proofs.Neighbours.{name_fits}
use Rattle.id_lookup.proofs.index.abbreviate_in.Goals as goal

pub unwrap-requires : goal.unwrap-requires
unwrap-requires g c = true_from_ne_false _ (λ none.
    let index = c.requires.index in
    let ids = map g.I.Id.digits c.args.ids.now in
    let inside : c.args.at < length ids = omega (arith, length-map c.args.ids.now g.I.Id.digits, c.requires.in_range) in
    let lacks = c.shortest_abbreviation.ensures.lacks none (index-sorted _ _ index) in
    let fits = name_fits c.args.kind ids index c.args.least c.args.at lacks.0 (max lacks.0 c.args.least) inside c.requires.fits lacks.1 refl in
    omega (arith, lacks.2, fits, index.kinds c.args.at [] (omega arith) inside))

pub returns-clause-kind : goal.returns-clause-kind
returns-clause-kind g c =
    let inside : c.args.at < length (map g.I.Id.digits c.args.ids.now) = omega (arith, length-map c.args.ids.now g.I.Id.digits, c.requires.in_range) in
    same_kind c.unwrap.result.kind c.args.kind ((rw c.unwrap.ensures at c.shortest_abbreviation.ensures.kind) ∙ c.requires.index.kinds c.args.at [] (omega arith) inside)

pub returns-clause-abbreviation : goal.returns-clause-abbreviation
returns-clause-abbreviation g c = (rw c.unwrap.ensures at c.shortest_abbreviation.ensures.abbreviation) (index-sorted _ _ c.requires.index)
