use Rattle.object_store.proofs.parts.prefix_to_read.Given as goal

abbrev pub invariant-loop-index : goal.invariant-loop-index
invariant-loop-index g l = Unit {0}
