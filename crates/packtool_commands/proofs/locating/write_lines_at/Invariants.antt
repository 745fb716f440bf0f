use Rattle.gix_hash.proofs.Std.{◌≡◌, ◌++◌, None, false, take, flat_map, string_bytes, Appends}
use Rattle.id_lookup.specs.Words.{id_digits}
use Rattle.packtool_commands.specs.Stores.{location_line}
use Rattle.packtool_commands.proofs.locating.write_lines_at.Given as goal

abbrev pub invariant-loop-path : goal.invariant-loop-path
invariant-loop-path g l =
    Appends (g.W.Sink.taken l.fn.out) (g.W.Sink.taken l.out)
    (flat_map (λ path. location_line (l.front.line.now ++ l.front.space.now) (id_digits l.located.id) (string_bytes path) None) (take l.path-index l.path-items))
    × (g.W.Sink.has_failed l.out ≡ false)
