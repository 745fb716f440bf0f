use Rattle.gix_hash.proofs.Std.{◌≡◌, All-map}
use Rattle.pack_index.specs.Lazy.{IndexView, seen}
use Rattle.packtool_tests.proofs.memory.MemoryStore.indexes.Goals as goal

pub returns-clause-kinds : goal.returns-clause-kinds
returns-clause-kinds c =
    let self = c.args.self.now in
    All-map (λ (pack : IndexView). pack.kind ≡ self.kind) seen self.packs.items self.of_kind
