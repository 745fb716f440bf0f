use Rattle.id_lookup.proofs.Beginnings.{matches-part, part-matches}
use Rattle.id_lookup.proofs.Filters.{filter-flat}
use Rattle.id_lookup.proofs.AbbreviationsInPart.{abbreviation-whole}
use Rattle.id_lookup.proofs.SameMembers.{part_is}
use Rattle.id_lookup.proofs.part_laws.parts.Goals as goal

pub returns-clause-part : goal.returns-clause-part
returns-clause-part c = part_is

pub returns-clause-lists : goal.returns-clause-lists
returns-clause-lists c = λ p. filter-flat p

pub returns-clause-found : goal.returns-clause-found
returns-clause-found c = matches-part

pub returns-clause-two : goal.returns-clause-two
returns-clause-two c = part-matches

pub returns-clause-abbreviations : goal.returns-clause-abbreviations
returns-clause-abbreviations c = abbreviation-whole
