use Rattle.gix_hash.proofs.Std.{inl}
use Rattle.directory_store.proofs.error.Error.index.Goals as goal

pub returns-in-Ok : goal.returns-in-Ok
returns-in-Ok c = inl (_, (_, c.in-Ok.ensures.ok, c.of_index.ensures), c.from.ensures)
