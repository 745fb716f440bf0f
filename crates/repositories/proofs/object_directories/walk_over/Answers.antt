use Rattle.gix_hash.proofs.Std.{ap, map, string_bytes}
use Rattle.repositories.proofs.Visits.{over_fails}
use Rattle.repositories.proofs.object_directories.walk_over.Goals as goal

pub returns-in-Err : goal.returns-in-Err
returns-in-Err g c = λ at known unspent.
    over_fails _ _ _ _ _ _ at c.deref.ensures (ap (map string_bytes) c.deref-2.ensures.value) c.new-walk.ensures (c.in_ok-real.ensures at known) (c.in-Err.ensures at known unspent)
