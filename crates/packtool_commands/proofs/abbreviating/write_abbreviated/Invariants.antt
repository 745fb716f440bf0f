use Rattle.gix_hash.proofs.Std.{◌≡◌, ◌≤◌, false, take, flat_map}
use Rattle.packtool_commands.specs.Files.{KeepsBack}
use Rattle.packtool_commands.specs.Stores.{abbreviated_line}
use Rattle.packtool_commands.proofs.abbreviating.write_abbreviated.Given as goal

abbrev pub invariant-loop-id : goal.invariant-loop-id
invariant-loop-id g l =
    KeepsBack (g.W.Sink.taken l.fn.out) (g.W.Sink.taken l.out) (take l.end l.lines) (flat_map abbreviated_line (take l.id-index l.abbreviated))
    × (g.W.Sink.has_failed l.out ≡ false)
    × (l.end ≤ 16384)
