use Rattle.gix_hash.proofs.Std.{◌≡◌, false, take, flat_map, Appends}
use Rattle.packtool_commands.specs.Files.{escape_of}
use Rattle.packtool_commands.proofs.escaping.write_escaped.Given as goal

abbrev pub invariant-loop-byte : goal.invariant-loop-byte
invariant-loop-byte g l =
    Appends (g.W.Sink.taken l.fn.out) (g.W.Sink.taken l.out) (flat_map escape_of (take l.byte-index l.byte-items)) × (g.W.Sink.has_failed l.out ≡ false)
