-- The run of an abbreviation contains only its id, and a look-up finds only that id.
use Rattle.gix_hash.proofs.Std.{◌≡◌, ◌≢◌, ℕ, ◌+◌, ◌-◌, ◌<◌, ◌≤◌, true, false, List, [], length, get_or, inl, inr, refl, sym, ◌∙◌, arith, bytes_decides, cases_eq, false≢true}
use Rattle.gix_hash.specs.Words.{KindDigits}
use Rattle.id_lookup.specs.Runs.{IsRun, IsSortedIds, begins_with, bound_of}
use Rattle.id_lookup.specs.Indexes.{IsShortestAbbreviationFrom}
use Rattle.id_lookup.specs.declared.search.Bound.TheVariants.{Start, End}
use Rattle.id_lookup.proofs.Placed.{run_is}
use Rattle.id_lookup.proofs.Spelled.{starts_with-spelling}

-- if only one id begins with the prefix, the run is that id
unique_run : (prefix : KindDigits) (ids : List (List ℕ)) (at : ℕ) → IsSortedIds ids → at < length ids → begins_with (get_or ids at []) prefix ≡ true
    → ((k : ℕ) → k < length ids → k ≢ at → begins_with (get_or ids k []) prefix ≡ false) → IsRun prefix ids (record { start = at; end = at + 1 })
unique_run prefix ids at sorted inside begins alone =
    let here = (whole.members at inside).0 begins in
    let first = only (bound_of Start prefix ids) (omega arith) (omega arith) in
    let last = only (bound_of End prefix ids - 1) (omega arith) (omega arith) in
    run_is prefix ids sorted (record { start = at; end = at + 1 }) (sym first) (omega arith)
  where
    whole : IsRun prefix ids (record { start = bound_of Start prefix ids; end = bound_of End prefix ids })
    whole = run_is prefix ids sorted (record { start = bound_of Start prefix ids; end = bound_of End prefix ids }) refl refl

    only : (k : ℕ) → bound_of Start prefix ids ≤ k → k < bound_of End prefix ids → k ≡ at
    only k low high =
        let within : k < length ids = omega (arith, whole.in_range) in
        elim (cases_eq k at) [ inl is ↦ is | inr other ↦ absurd (false≢true (sym (alone k within other) ∙ (whole.members k within).1 (low, high))) ]

-- the run of an abbreviation is its id
pub name_run : (fewest : ℕ) (ids : List (List ℕ)) (at : ℕ) (prefix : KindDigits) → IsSortedIds ids → at < length ids
    → IsShortestAbbreviationFrom fewest ids at prefix.digits → IsRun prefix ids (record { start = at; end = at + 1 })
name_run fewest ids at prefix sorted inside name =
    unique_run prefix ids at sorted inside
    (starts_with-spelling (get_or ids at []) prefix.digits ∙ (bytes_decides prefix.digits _).1 name.first)
    (λ k within other. starts_with-spelling (get_or ids k []) prefix.digits ∙ name.alone k within other)
