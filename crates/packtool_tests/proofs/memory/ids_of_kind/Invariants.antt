use Rattle.std.proofs.Common.{◌≡◌, All}
use Rattle.id_lookup.specs.Words.{id_kind}
use Rattle.packtool_tests.proofs.memory.ids_of_kind.Given as goal

abbrev pub invariant-loop-id : goal.invariant-loop-id
invariant-loop-id l = All (λ id. id_kind id ≡ l.kind) l.found.items
