use Rattle.gix_hash.proofs.Std.{refl}
use Rattle.pack_index.proofs.Layouts.{table_is}
use Rattle.pack_index.proofs.lazy.LazyFile.ids.Goals as goal

pub returns-clause-ids : goal.returns-clause-ids
returns-clause-ids g c =
    rw (← c.self.view_is) (λ bytes is. table_is _ _ _ _ bytes (c.self.invariant.2 bytes is).0
    (record { kind = c.self.inside.kind; start = c.first_id.result; count = c.num_objects.result }) refl c.first_id.ensures c.num_objects.ensures)
