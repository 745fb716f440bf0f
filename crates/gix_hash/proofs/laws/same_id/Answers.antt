use Rattle.id_digits.proofs.Std.{ap}
use Rattle.gix_hash.proofs.Equalities.{same_id}
use Rattle.gix_hash.specs.Reading.{whole_of}
use Rattle.gix_hash.proofs.laws.same_id.Goals as goal

pub returns : goal.returns
returns c = (ap whole_of, λ h. same_id _ _ (ap (λ b. b.kind) h) (ap (λ b. b.digits) h))
