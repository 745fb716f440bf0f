use Rattle.gix_hash.proofs.Std.{◌∙◌, sym}
use Rattle.pack_index.proofs.Known.{by_bytes}
use Rattle.pack_index.proofs.Layouts.{count_is}
use Rattle.pack_index.proofs.lazy.LazyFile.num_objects.Goals as goal

pub returns-clause-ids : goal.returns-clause-ids
returns-clause-ids g c =
    rw (← c.self.view_is) (by_bytes c.self.inside.kind c.self.inside.layout _ _ (λ bytes is. c.num_objects.ensures ∙ sym (count_is _ _ _ _ bytes (c.self.invariant.2 bytes is).0)))
