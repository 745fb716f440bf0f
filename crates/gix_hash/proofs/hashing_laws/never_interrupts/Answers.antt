use Rattle.gix_hash.proofs.Reaching.{always_false}
use Rattle.gix_hash.proofs.hashing_laws.never_interrupts.Goals as goal

pub returns : goal.returns
returns c answers reached = always_false _ (λ p q answer asked. asked.0) _ _ answers reached
