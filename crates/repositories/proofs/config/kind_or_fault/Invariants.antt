use Rattle.gix_hash.proofs.Std.{◌≡◌, None, length, option_map}
use Rattle.repositories.specs.Formats.{first_fault, kind_of, last_of, needs_of, unknown_of, version_of}
use Rattle.repositories.proofs.config.kind_or_fault.Given as goal

abbrev pub invariant-loop-variable : goal.invariant-loop-variable
invariant-loop-variable l = record {
  fault : first_fault l.left ≡ first_fault l.fn.config.variables.items;
  version : last_of version_of l.version l.left ≡ last_of version_of None l.fn.config.variables.items;
  kind : last_of kind_of l.kind l.left ≡ last_of kind_of None l.fn.config.variables.items;
  needs : last_of needs_of l.needs l.left ≡ last_of needs_of None l.fn.config.variables.items;
  unknown : last_of unknown_of (option_map (λ name. name.now) l.unknown) l.left ≡ last_of unknown_of None l.fn.config.variables.items;
}

abbrev pub decreases-loop-variable : goal.decreases-loop-variable
decreases-loop-variable l = length l.left
