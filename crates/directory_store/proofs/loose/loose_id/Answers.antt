use Rattle.std.proofs.lemmas.Grind.{common_steps}
use Rattle.gix_hash.proofs.Std.{arith, subst}
use Rattle.directory_store.specs.Stores.{IsIdText}
use Rattle.directory_store.proofs.loose.loose_id.Goals as goal

pub returns : goal.returns
returns c = subst (λ text. IsIdText c.args.kind text c.read_id.result) (grind (arith, common_steps)) c.read_id.ensures
