use Rattle.id_digits.proofs.Std.{◌≡◌, map, take, concat}
use Rattle.gix_hash.specs.Hashing.{hasher_kind, WasFed}
use Rattle.gix_hash.proofs.hashing_laws.id_of_chunks.Given as goal

-- the hasher was fed the slices so far
abbrev pub invariant-loop-slice : goal.invariant-loop-slice
invariant-loop-slice l = record {
  kind : hasher_kind l.hasher ≡ l.fn.kind;
  fed : WasFed l.hasher (concat (map (λ slice. slice.now) (take l.slice-index l.slices)));
}
