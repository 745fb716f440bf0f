use Rattle.directory_store.proofs.loose.list_loose.Goals as goal

pub returns-clause-loose : goal.returns-clause-loose
returns-clause-loose g c = λ at known. record { own = c.in_ok-directories.ensures.paths; each = c.in_ok-directories.ensures.loose at known }
