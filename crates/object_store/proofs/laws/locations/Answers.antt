use Rattle.object_store.proofs.LocationMembers.{loose_location, packed_location}
use Rattle.object_store.proofs.laws.locations.Goals as goal

pub returns-clause-packed : goal.returns-clause-packed
returns-clause-packed c = packed_location

pub returns-clause-loose : goal.returns-clause-loose
returns-clause-loose c = loose_location
