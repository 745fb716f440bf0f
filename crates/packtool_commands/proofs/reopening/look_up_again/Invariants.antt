use Rattle.object_store.specs.Stores.{IsReopened}
use Rattle.packtool_commands.proofs.reopening.look_up_again.Given as goal

abbrev pub invariant-loop-try : goal.invariant-loop-try
invariant-loop-try g l = IsReopened g.S.Reopen.had g.S.Store.view l.fn.store l.store
