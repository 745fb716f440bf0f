use Rattle.gix_hash.proofs.Std.{take}
use Rattle.streams.specs.Devices.{plain_failed, plain_inner}
use Rattle.packtool.specs.Files.{AreDone, IsRead}
use Rattle.packtool.proofs.read_each.Given as goal

abbrev pub invariant-loop-path : goal.invariant-loop-path
invariant-loop-path g l =
    AreDone (λ path own before after. IsRead l.request.command path.now (plain_failed after) own (g.W.Write.contents (plain_inner before)) (g.W.Write.contents (plain_inner after)))
    (take l.path-index l.request.paths.now) l.status l.fn.out l.out
