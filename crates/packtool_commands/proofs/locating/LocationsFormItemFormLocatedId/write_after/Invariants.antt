use Rattle.gix_hash.proofs.Std.{◌≡◌, ◌++◌, false, take, flat_map, Appends}
use Rattle.packtool_commands.specs.Stores.{lines_at_after}
use Rattle.packtool_commands.proofs.locating.LocationsFormItemFormLocatedId.write_after.Given as goal

abbrev pub invariant-loop-location : goal.invariant-loop-location
invariant-loop-location g l =
    Appends (g.W.Sink.taken l.fn.out) (g.W.Sink.taken l.out)
    (flat_map (lines_at_after (g.S.StorePaths.pack_path l.self.store.now) (l.front.line.now ++ l.front.space.now) l.located) (take l.location-index l.location-items))
    × (g.W.Sink.has_failed l.out ≡ false)
