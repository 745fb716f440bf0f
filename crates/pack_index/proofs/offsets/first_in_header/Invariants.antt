use Rattle.pack_index.specs.Format.{Each, IsPastHeader}
use Rattle.pack_index.proofs.offsets.first_in_header.Given as goal

abbrev pub invariant-loop-at : goal.invariant-loop-at
invariant-loop-at l = Each (IsPastHeader l.kind l.bytes) l.at
