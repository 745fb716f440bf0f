use Rattle.gix_hash.proofs.Std.{length, ◌≡◌}
use Rattle.file_commands.proofs.multi.fault_at.Given as goal

abbrev pub invariant-loop-name : goal.invariant-loop-name
invariant-loop-name g l = length l.found.items ≡ length l.own.items
