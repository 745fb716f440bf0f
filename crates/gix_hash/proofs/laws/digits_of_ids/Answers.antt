use Rattle.gix_hash.proofs.IdDigits.{AreIdDigits-some}
use Rattle.gix_hash.proofs.laws.digits_of_ids.Goals as goal

pub returns : goal.returns
returns c = AreIdDigits-some c.args.kind
