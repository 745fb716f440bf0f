use Rattle.gix_hash.proofs.Std.{◌⊎◌, inr, IfErr-weaker}
use Rattle.id_lookup.specs.Words.{first_byte_of, id_digits}
use Rattle.object_store.specs.Stores.{HaveBuckets, IsLocateFault, IsStoreFault}
use Rattle.object_store.proofs.PartIds.{have_read}
use Rattle.object_store.proofs.parts.Parts.locate.Goals as goal

pub returns-clause-locations : goal.returns-clause-locations
returns-clause-locations g c = rw (← c.take_part.ensures.store, ← c.self.view_is) c.locate_in-locations.ensures.locations

pub returns-clause-err : goal.returns-clause-err
returns-clause-err g c =
    let view = g.S.Store.view c.args.self.now.now in
    let id = id_digits c.args.id.now in
    let ids = c.in_ok-part.ensures.read in
    let sound : HaveBuckets view (first_byte_of id) = have_read view (first_byte_of id) ids.read (rw c.from.ensures at ids.ids_read) in
    let err = rw (c.self.view_is, c.take_part.ensures.store) at c.locate_in-locations.ensures.err in
    IfErr-weaker c.locate_in-locations.result (IsLocateFault view id) (λ e. IsStoreFault view (first_byte_of id) e ⊎ (HaveBuckets view (first_byte_of id) × IsLocateFault view id e))
    (λ e fault. inr (sound, fault)) err
