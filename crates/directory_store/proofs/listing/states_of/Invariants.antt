use Rattle.gix_hash.proofs.Std.{◌≡◌, map, string_bytes, take, vec_len}
use Rattle.repositories.specs.Answers.{IfKnown}
use Rattle.directory_store.specs.Stores.{AreStatesOf}
use Rattle.directory_store.proofs.listing.states_of.Given as goal

abbrev pub invariant-loop-path : goal.invariant-loop-path
invariant-loop-path g l = record {
  as_many : vec_len l.states ≡ l.path-index;
  states : IfKnown (AreStatesOf (map string_bytes (take l.path-index l.paths)) l.states.items) (g.R.Directories.answers l.rt);
}
