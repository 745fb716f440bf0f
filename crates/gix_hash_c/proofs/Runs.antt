-- Runs of digits, whatever kind the prefix has that they are of.
use Rattle.gix_hash.proofs.Std.{ℕ, ◌≤◌, List, length, map, arith, length-map}
use Rattle.id_lookup.specs.Words.{IsRun, IsSortedIds, Kind, KindDigits, digits_of, kind_digits}
use Rattle.id_lookup.specs.declared.search.Run as found
use Rattle.gix_hash_c.specs.LookUps.{IsRunIfSorted, run_in}
use Rattle.gix_hash_c.specs.declared.look_up.Run.{Run}

pub same_run : (prefix : KindDigits) (kind : Kind) (ids : List (List ℕ)) (run : found.Run) → IsRun prefix ids run → IsRun (kind_digits kind prefix.digits) ids run
same_run prefix kind ids run r = record {
  start = r.start;
  end = r.end;
  in_range = r.in_range;
  members = r.members;
  found = r.found;
  before = r.before;
  within = r.within;
  after = r.after;
}

-- what was found in digests one after the other is found among their ids
pub found_in : (prefix : KindDigits) (chunks : List (List ℕ)) (run : Run) → run.start ≤ run.end → run.end ≤ length chunks
    → (IsSortedIds (map digits_of chunks) → IsRun prefix (map digits_of chunks) (run_in run)) → IsRunIfSorted prefix.digits (map digits_of chunks) run
found_in prefix chunks run in_order within is = record {
  in_order = in_order;
  in_range = omega (arith, within, length-map chunks digits_of);
  is = λ kind sorted. same_run prefix kind (map digits_of chunks) (run_in run) (is sorted);
}
