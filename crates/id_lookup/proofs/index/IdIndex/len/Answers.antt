use Rattle.id_lookup.proofs.Indexes.{index-pairs}
use Rattle.id_lookup.proofs.index.IdIndex.len.Goals as goal

pub returns-clause-in_order : goal.returns-clause-in_order
returns-clause-in_order g c = rw (← c.self.view_is) (index-pairs _ _ c.self.invariant.0)
