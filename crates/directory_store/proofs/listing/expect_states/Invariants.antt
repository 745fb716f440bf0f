use Rattle.gix_hash.proofs.Std.{map, string_bytes, take}
use Rattle.repositories.specs.Answers.{IfKnown}
use Rattle.directory_store.specs.Stores.{AreStatesOf}
use Rattle.directory_store.proofs.listing.expect_states.Given as goal

abbrev pub invariant-loop-at : goal.invariant-loop-at
invariant-loop-at g l = IfKnown (AreStatesOf (map string_bytes (take l.at l.paths)) (take l.at l.states)) (g.R.Directories.answers l.rt)
