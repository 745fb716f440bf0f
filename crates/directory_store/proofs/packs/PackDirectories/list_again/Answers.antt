use Rattle.gix_hash.proofs.Std.{All, subst, sym}
use Rattle.directory_store.specs.Stores.{IsListedPack}
use Rattle.directory_store.proofs.packs.PackDirectories.list_again.Goals as goal

pub returns-clause-earlier : goal.returns-clause-earlier
returns-clause-earlier g c = λ whole.
    subst (λ listed. All (IsListedPack listed) c.args.earlier.paths.items) (sym (c.in_ok-listed-2.ensures.all whole)) c.in_ok-listed.ensures.earlier

pub returns-clause-packs : goal.returns-clause-packs
returns-clause-packs g c = λ at known. record {
  indexes = c.in_ok-listed.listed.paths.items;
  listed = c.in_ok-listed.ensures.indexes at known;
  all = c.in_ok-listed-2.ensures.packs at known;
}
