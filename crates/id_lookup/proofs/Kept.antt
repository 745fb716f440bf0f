-- Comparisons change only the count of probes.
use Rattle.gix_hash.proofs.Std.{◌≡◌, ℕ, sym, ap, ◌∙◌}
use Rattle.id_lookup.specs.Runs.{Probing}

-- if q differs from p, and r from q, only in the count, then r differs from p only in the count
pub kept : (p q r : Probing) (n : ℕ) → q ≡ record p { asked = q.asked } → r ≡ record q { asked = n } → r ≡ record p { asked = r.asked }
kept p q r n first second =
    let count : r.asked ≡ n = ap (λ (x : Probing). x.asked) second in
    let further : Probing → Probing = λ x. record x { asked = n } in
    let counts : ℕ → Probing = λ k. record p { asked = k } in
    second ∙ ap further first ∙ ap counts (sym count)
