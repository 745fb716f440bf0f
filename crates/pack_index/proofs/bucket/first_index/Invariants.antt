use Rattle.gix_hash.proofs.Std.{◌≢◌, ℕ, ◌<◌, [], get_or, map}
use Rattle.id_lookup.specs.Words.{oid_digits}
use Rattle.pack_index.proofs.bucket.first_index.Given as goal

abbrev pub invariant-loop-at : goal.invariant-loop-at
invariant-loop-at g l = (k : ℕ) → k < l.at → get_or (map g.I.Id.digits l.ids) k [] ≢ oid_digits l.id
