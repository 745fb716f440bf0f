use Rattle.gix_hash.proofs.PlaceLaws.{begins_from_place, place_from_begins}
use Rattle.gix_hash.proofs.laws.equal_iff_it_begins.Goals as goal

pub returns : goal.returns
returns c = (begins_from_place _ _, place_from_begins _ _)
