use Rattle.pack_index.specs.Format.{Each, IsSigned}
use Rattle.pack_index.proofs.offsets.first_too_high.Given as goal

abbrev pub invariant-loop-at : goal.invariant-loop-at
invariant-loop-at l = Each (IsSigned l.kind l.bytes) l.at
