-- The status of what was asked of a store that is kept.
use Rattle.std.specs.Prelude.{IsSomeAnd, if◌then◌else◌, is_none}
use Rattle.gix_hash.proofs.Std.{[], ◌++◌, ◌↔◌, ◌∷◌, ◌≡◌, ℕ, Bool, IfOk, IsTrue, List, None, Ok, Option, Result, Some, false, is_some, not, refl, subst, sym, true}
use Rattle.directory_store.specs.declared.error.Error.{Error}
use Rattle.store_questions.specs.Answers.{IsStatus}

-- what a call found over a store was found in the store that is kept
pub kept-found : {S E T : Type 0} (P : S → Type 0) (Has : T → Type 0) (store : S) (kept : Option S) (ran : Result T E) (found : T)
    → ran ≡ Ok found → kept ≡ Some store → IfOk ran Has → (Has found → P store) → IsSomeAnd kept P
kept-found P Has store kept ran found is same has both = subst (λ k. IsSomeAnd k P) (sym same) (both (subst (λ r. IfOk r Has) is has))

-- the status, by whether the store is whole
pub status-is : (skipped : List Error) (is_whole any : Bool) (status : ℕ) → IsTrue is_whole ↔ (skipped ≡ [])
    → status ≡ (if is_whole then (if any then 0 else 1) else 2) → IsStatus skipped any status
status-is skipped true any status whole is = (λ _. is, λ some. absurd (some (whole.0 refl)))
status-is [] false any status whole is = absurd (cc (whole.1 refl))
status-is (error ∷ skipped) false any status whole is = (λ none. absurd (cc none), λ _. is)

-- whether there is no value
none-is : {X : Type 0} (o : Option X) (none : Bool) → is_some o ≡ not none → none ≡ is_none o
none-is None true same = refl
none-is None false same = absurd (cc same)
none-is (Some x) true same = absurd (cc same)
none-is (Some x) false same = refl

-- the status, where what was asked for was found if no line lacks an answer
pub status-of : {X : Type 0} (skipped : List Error) (is_whole none : Bool) (lacks : Option X) (status : ℕ) → IsTrue is_whole ↔ (skipped ≡ [])
    → is_some lacks ≡ not none → status ≡ (if is_whole then (if none then 0 else 1) else 2) → IsStatus skipped (is_none lacks) status
status-of skipped is_whole none lacks status whole same is =
    subst (λ any. IsStatus skipped any status) (none-is lacks none same) (status-is skipped is_whole none status whole is)

-- the status, if nothing was skipped before
pub status-whole : (before skipped : List Error) (was_whole any : Bool) (status : ℕ) → IsTrue was_whole ↔ (before ≡ []) → was_whole ≡ true
    → IsStatus skipped any status → IsStatus (before ++ skipped) any status
status-whole before skipped was_whole any status whole holds is = rw (whole.0 holds) is

-- the status, if something was
pub status-failed : (before skipped : List Error) (was_whole any : Bool) → IsTrue was_whole ↔ (before ≡ []) → was_whole ≡ false
    → IsStatus (before ++ skipped) any 2
status-failed [] skipped was_whole any whole fails = absurd (cc (whole.1 refl))
status-failed (error ∷ before) skipped was_whole any whole fails = (λ none. absurd (cc none), λ _. refl)
