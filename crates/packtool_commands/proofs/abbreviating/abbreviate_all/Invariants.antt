use Rattle.gix_hash.proofs.Std.{◌≡◌, false}
use Rattle.object_store.specs.Stores.{IsReopened}
use Rattle.packtool_commands.specs.Stores.{HasAbbreviatedBelow}
use Rattle.packtool_commands.proofs.abbreviating.abbreviate_all.Given as goal

abbrev pub invariant-loop-byte : goal.invariant-loop-byte
invariant-loop-byte g l =
    IsReopened g.S.Reopen.had g.S.Store.view l.fn.store l.store
    × HasAbbreviatedBelow l.byte l.fn.least (g.S.Reopen.had l.fn.store l.store) l.any (g.W.Sink.taken l.fn.out) (g.W.Sink.taken l.out)
    × (g.W.Sink.has_failed l.out ≡ false)
