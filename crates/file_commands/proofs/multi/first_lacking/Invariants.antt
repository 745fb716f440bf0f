use Rattle.gix_hash.proofs.Std.{All, Contains, length, take, ◌≡◌}
use Rattle.file_commands.proofs.multi.first_lacking.Given as goal

abbrev pub invariant-loop-id : goal.invariant-loop-id
invariant-loop-id l = All (Contains l.own) (take l.id-index l.ids) × (length l.found ≡ length l.own)
