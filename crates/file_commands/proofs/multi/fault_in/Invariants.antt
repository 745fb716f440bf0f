use Rattle.std.specs.Option.{ForSome}
use Rattle.file_commands.specs.Verdicts.{IsMulti}
use Rattle.file_commands.proofs.multi.fault_in.Given as goal

abbrev pub invariant-loop-byte : goal.invariant-loop-byte
invariant-loop-byte g l = ForSome (g.S.ReadAt.content l.fn.source) IsMulti
