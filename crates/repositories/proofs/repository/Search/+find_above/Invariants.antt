use Rattle.repositories.proofs.repository.Search.+find_above.Given as goal

abbrev pub decreases-find_above : goal.decreases-find_above
decreases-find_above g l = l.levels
