use Rattle.gix_hash.proofs.Std.{◌≡◌, map, string_bytes, take}
use Rattle.repositories.specs.Discovery.{alternate_in}
use Rattle.repositories.proofs.finding.alternates_in.Given as goal

abbrev pub invariant-loop-path : goal.invariant-loop-path
invariant-loop-path g l = map string_bytes l.alternates.items ≡ map (alternate_in l.top) (map (λ path. path.items) (take l.path-index l.fn.named))
