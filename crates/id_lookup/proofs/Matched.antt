-- The ids of a run are those that match.
use Rattle.gix_hash.proofs.Std.{◌≡◌, ℕ, ◌-◌, List, map, take, drop, sym, ap, ◌∙◌, slice_range, take-map, drop-map}
use Rattle.gix_hash.specs.Words.{KindDigits}
use Rattle.id_lookup.specs.Runs.{IsRun, matches}
use Rattle.id_lookup.specs.declared.search.Run.{Run}

-- the ids of the run, by their digits
pub run_matches : {I : Type 0} (digits : I → List ℕ) (prefix : KindDigits) (ids : List I) (run : Run) → IsRun prefix (map digits ids) run
    → map digits (slice_range ids run.start run.end) ≡ matches prefix.digits (map digits ids)
run_matches digits prefix ids run found =
    sym (take-map digits (run.end - run.start) (drop run.start ids)) ∙ sym (ap (take (run.end - run.start)) (drop-map digits run.start ids))
    ∙ found.found
