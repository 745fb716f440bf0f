use Rattle.directory_store.proofs.LooseNames.{missing_is_unlisted}
use Rattle.directory_store.proofs.listing.state_if_there.Goals as goal

pub returns-in-Ok-clause-missing : goal.returns-in-Ok-clause-missing
returns-in-Ok-clause-missing g c = λ none at known. missing_is_unlisted at c.args.directory.now c.in-Ok.state (c.in-Ok.ensures.ok at known) none
