use Rattle.gix_hash.proofs.Std.{◌-◌, length, arith}
use Rattle.list_search.proofs.FinderLemmas.{last_or-at}
use Rattle.list_search.proofs.finder.last_of.Goals as goal

pub returns : goal.returns
returns c = last_or-at c.args.ids.now _ _ (length c.args.ids.now - 1) (omega arith)
