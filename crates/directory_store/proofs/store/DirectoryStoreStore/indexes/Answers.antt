use Rattle.gix_hash.proofs.Std.{◌≡◌, All-map}
use Rattle.pack_index.specs.Lazy.{IndexView, seen}
use Rattle.directory_store.proofs.store.DirectoryStoreStore.indexes.Goals as goal

pub returns-clause-kinds : goal.returns-clause-kinds
returns-clause-kinds g c =
    let self = c.args.self.now in
    All-map (λ (pack : IndexView). pack.kind ≡ self.directory.kind) seen self.indexes.items self.of_kind
