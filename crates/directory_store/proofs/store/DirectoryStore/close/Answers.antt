use Rattle.gix_hash.proofs.Std.{◌∙◌, ◌∷◌, [], arith, ap, length, length-append, sym}
use Rattle.directory_store.proofs.store.DirectoryStore.close.Goals as goal

pub invariant_of-self-clause-are_opened : goal.invariant_of-self-clause-are_opened
invariant_of-self-clause-are_opened g c =
    ∣ (λ none. absurd (omega (arith, ap length (sym c.in_ok-push.ensures.items ∙ none), length-append c.new-skipped.result.items (c.changed.result ∷ [])))) ∣₁
