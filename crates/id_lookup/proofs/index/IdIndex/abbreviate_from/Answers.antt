use Rattle.id_lookup.specs.Runs.{IsSortedIds}
use Rattle.id_lookup.proofs.Indexes.{index-sorted}
use Rattle.id_lookup.proofs.UniqueRun.{name_run}
use Rattle.id_lookup.proofs.index.IdIndex.abbreviate_from.Goals as goal

pub returns-clause-abbreviation : goal.returns-clause-abbreviation
returns-clause-abbreviation g c = rw (← c.self.view_is) c.abbreviate_in.ensures.abbreviation

pub returns-clause-run : goal.returns-clause-run
returns-clause-run g c =
    let sorted : IsSortedIds c.args.self.now.ids = rw (← c.self.view_is) (index-sorted _ _ c.self.invariant.0) in
    name_run c.args.least c.args.self.now.ids c.args.at c.abbreviate_in.result sorted c.requires.in_range (returns-clause-abbreviation g c)
