use Rattle.gix_hash.proofs.Std.{get_or, get_or_default}
use Rattle.directory_store.specs.Stores.{index_path}
use Rattle.directory_store.proofs.Members.{map_has}
use Rattle.directory_store.proofs.packs.PackDirectories.list_after.Goals as goal

pub returns-then-are_settled-clause-earlier : goal.returns-then-are_settled-clause-earlier
returns-then-are_settled-clause-earlier g c = λ k d low.
    let listed = c.args.earlier.paths.items in
    map_has index_path listed (get_or listed k d) (k, low, get_or_default listed k (get_or listed k d) d low)
