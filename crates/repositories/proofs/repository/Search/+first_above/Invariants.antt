use Rattle.repositories.proofs.repository.Search.+first_above.Given as goal

abbrev pub decreases-first_above : goal.decreases-first_above
decreases-first_above g l = l.levels
