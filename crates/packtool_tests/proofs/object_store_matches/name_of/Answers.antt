use Rattle.std.proofs.Common.{◌∙◌, ap, sym}
use Rattle.std.specs.Borrow.{MutBor}
use Rattle.packtool_tests.proofs.object_store_matches.name_of.Goals as goal

pub abbreviate-requires-clause-listed : goal.abbreviate-requires-clause-listed
abbreviate-requires-clause-listed g c = λ only is.
    c.requires _ only (ap (λ (store : MutBor _). (g.S.Store.view store.now).listed) (sym c.new.ensures) ∙ is)
