use Rattle.gix_hash.proofs.Std.{ℕ, List, ap₂}
use Rattle.directory_store.proofs.Clones.{same_texts}
use Rattle.directory_store.proofs.store.copy_of.Goals as goal

pub returns-clause-place : goal.returns-clause-place
returns-clause-place c =
    ap₂ (λ (path : List ℕ) (alternates : List (List ℕ)). (path, alternates)) c.in_ok-clone.ensures.cases
    (same_texts c.args.directory.now.alternates.items c.in_ok-clone-2.field-0.items c.in_ok-clone-2.ensures.cases.0)
