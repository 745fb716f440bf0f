use Rattle.std.proofs.Common.{◌∙◌, ap, sym}
use Rattle.std.specs.Borrow.{MutBor}
use Rattle.packtool_tests.proofs.object_store_matches.locations_of.Goals as goal

pub locate-requires-clause-listed : goal.locate-requires-clause-listed
locate-requires-clause-listed g c = λ only is.
    c.requires _ only (ap (λ (store : MutBor _). (g.S.Store.view store.now).listed) (sym c.new.ensures) ∙ is)
