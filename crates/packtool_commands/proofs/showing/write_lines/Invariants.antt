use Rattle.gix_hash.proofs.Std.{◌≡◌, ◌≤◌, false, length, take, flat_map, range_with_len}
use Rattle.pack_index.specs.Format.{ids_in}
use Rattle.packtool_commands.specs.Files.{KeepsBack, index_line}
use Rattle.packtool_commands.proofs.showing.write_lines.Given as goal

abbrev pub invariant-loop-index : goal.invariant-loop-index
invariant-loop-index g l =
    KeepsBack (g.W.Sink.taken l.fn.out) (g.W.Sink.taken l.out) (take l.end l.lines)
    (flat_map (index_line l.file.kind l.file.bytes) (take l.index (range_with_len 0 (length (ids_in l.file.kind l.file.bytes)))))
    × (g.W.Sink.has_failed l.out ≡ false)
    × (l.end ≤ 16384)
