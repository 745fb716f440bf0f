use Rattle.gix_hash.proofs.PlaceLaws.{nested_either}
use Rattle.gix_hash.proofs.laws.nested_or_disjoint.Goals as goal

pub returns : goal.returns
returns c = nested_either c.args.first.now.digits c.args.second.now.digits
