use Rattle.gix_hash.proofs.Std.{subst, All}
use Rattle.id_lookup.specs.Words.{AreIdDigits, Index}
use Rattle.object_store.proofs.store.LooseTable.ids.Goals as goal

pub returns-clause-digits : goal.returns-clause-digits
returns-clause-digits c = λ k d low. (subst (λ (x : Index). All (AreIdDigits x.kind) x.ids) c.self.view_is c.self.invariant.1 k d low).1
