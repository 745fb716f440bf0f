use Rattle.id_lookup.specs.Words.{id_digits}
use Rattle.object_store.proofs.Located.{ArePacked}
use Rattle.object_store.proofs.locations.locate_in.Given as goal

abbrev pub invariant-loop-pack : goal.invariant-loop-pack
invariant-loop-pack g l = ArePacked (g.S.Store.view l.store) (id_digits l.id) l.pack l.locations.items
