use Rattle.gix_hash.proofs.Std.{map, IfSome_then}
use Rattle.gix_hash.specs.Words.{KindDigits}
use Rattle.id_lookup.specs.Indexes.{IsShortestAbbreviationFrom}
use Rattle.id_lookup.specs.Runs.{IsSortedIds}
use Rattle.id_lookup.proofs.UniqueRun.{name_run}
use Rattle.id_lookup.proofs.sorted.SortedIds.abbreviate_from.Goals as goal

pub returns-clause-abbreviation : goal.returns-clause-abbreviation
returns-clause-abbreviation g c =
    let ids = map g.I.Id.digits c.self.inside.ids.now in
    let is_name = λ (name : KindDigits). IsShortestAbbreviationFrom c.args.least ids c.args.at name.digits in
    rw (← c.self.view_is) (IfSome_then c.shortest_abbreviation.result {P = λ name. IsSortedIds ids → is_name name} {Q = is_name} c.shortest_abbreviation.ensures.abbreviation (λ name is. is c.self.invariant.0))

pub returns-clause-run : goal.returns-clause-run
returns-clause-run g c =
    IfSome_then _ {P = λ (name : KindDigits). IsShortestAbbreviationFrom c.args.least c.args.self.now c.args.at name.digits} (returns-clause-abbreviation g c)
    (λ name is. name_run c.args.least c.args.self.now c.args.at name (rw (← c.self.view_is) c.self.invariant.0) c.requires.in_range is)
