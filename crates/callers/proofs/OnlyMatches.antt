-- If a prefix has no match or many, no member is its only match.
use Rattle.std.proofs.Common.{◌≡◌, ◌+◌, ℕ, ◌⊎◌, inl, inr, List, subst, arith}
use Rattle.gix_hash.specs.Words.{KindDigits}
use Rattle.id_lookup.specs.Words.{IsAnswer, IsRun}
use Rattle.id_lookup.specs.declared.index.Answer.{Answer}
use Rattle.id_lookup.specs.declared.index.Answer.TheVariants as answers
use Rattle.id_lookup.specs.declared.search.Run.{Run}

-- a prefix has one run
run_of_one : (prefix : KindDigits) (ids : List (List ℕ)) (run : Run) (at : ℕ) → IsRun prefix ids run → IsRun prefix ids (record { start = at; end = at + 1 })
    → run.start + 1 ≡ run.end
run_of_one prefix ids run at is one = omega (arith, is.start, is.end, one.start, one.end)

pub not_one : (prefix : KindDigits) (ids : List (List ℕ)) (answer : Answer) → IsAnswer prefix ids answer
    → ((answer ≡ answers.None) ⊎ ((run : Run) × (answer ≡ answers.Many run))) → (at : ℕ) → IsRun prefix ids (record { start = at; end = at + 1 }) → ⊥
not_one prefix ids answer means (inl is) at one =
    let none = subst (IsAnswer prefix ids) is means in
    let size = run_of_one prefix ids (record { start = none.0; end = none.0 }) at none.1 one in
    absurd (omega (arith, size))
not_one prefix ids answer means (inr (run, is)) at one =
    let many = subst (IsAnswer prefix ids) is means in
    let size = run_of_one prefix ids run at many.0 one in
    absurd (omega (arith, size, many.1))
