use Rattle.gix_hash.proofs.Std.{◌∙◌, refl}
use Rattle.directory_store.proofs.Wholes.{both_nil}
use Rattle.store_questions.proofs.StatusLemmas.{kept-found, status-failed, status-is, status-whole}
use Rattle.store_questions.proofs.asked.Asked.write_all.Goals as goal

pub abbreviate_all-ran-requires-clause-has : goal.abbreviate_all-ran-requires-clause-has
abbreviate_all-ran-requires-clause-has g c =
    let store = c.in_ok-store.store in
    (refl, refl, refl, refl, refl, λ none. c.in_ok-store.ensures.objects (both_nil store.skipped_before.items store.skipped.items none).1)

pub keep-requires-clause-of : goal.keep-requires-clause-of
keep-requires-clause-of g c =
    let store = c.in_ok-store.store in
    let reopened = c.abbreviate_all-ran.ensures.reopened in
    let had = reopened.has store (refl, refl, refl, refl, refl, λ none. c.in_ok-store.ensures.objects (both_nil store.skipped_before.items store.skipped.items none).1) in
    (reopened.kind ∙ c.in_ok-store.ensures.kind, had.0 ∙ c.in_ok-store.ensures.place, had.2 ∙ c.in_ok-store.ensures.purpose ∙ c.purpose_of-purpose.ensures, had.1 ∙ c.in_ok-store.ensures.answers)

pub returns-then-branch-clause-answered : goal.returns-then-branch-clause-answered
returns-then-branch-clause-answered g c =
    kept-found _ _ _ _ c.abbreviate_all-ran.result c.in_ok-kept.kept.0 c.in_ok-kept.ensures.ran c.in_ok-kept.ensures.kept c.abbreviate_all-ran.ensures.abbreviated
    (λ has. (
      c.in_ok-kept.kept.0,
      status-whole _ _ _ c.in_ok-kept.kept.0 _ (rw c.skipped_before.ensures at c.in_ok-was_whole.ensures) c.if-branch.true
          (status-is _ c.in_ok-kept.kept.1 c.in_ok-kept.kept.0 _ c.in_ok-kept.ensures.whole c.status_if-status.ensures),
      c.in_ok-store.store,
      (c.in_ok-store.ensures.kind, c.in_ok-store.ensures.place, c.in_ok-store.ensures.purpose ∙ c.purpose_of-purpose.ensures, c.in_ok-store.ensures.answers),
      c.in_ok-store.ensures.listed,
      has,
    ))

pub returns-else-branch-clause-answered : goal.returns-else-branch-clause-answered
returns-else-branch-clause-answered g c =
    kept-found _ _ _ _ c.abbreviate_all-ran.result c.in_ok-kept.kept.0 c.in_ok-kept.ensures.ran c.in_ok-kept.ensures.kept c.abbreviate_all-ran.ensures.abbreviated
    (λ has. (
      c.in_ok-kept.kept.0,
      status-failed _ _ _ c.in_ok-kept.kept.0 (rw c.skipped_before.ensures at c.in_ok-was_whole.ensures) c.if-branch.false,
      c.in_ok-store.store,
      (c.in_ok-store.ensures.kind, c.in_ok-store.ensures.place, c.in_ok-store.ensures.purpose ∙ c.purpose_of-purpose.ensures, c.in_ok-store.ensures.answers),
      c.in_ok-store.ensures.listed,
      has,
    ))
