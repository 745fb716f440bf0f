use Rattle.gix_hash.proofs.Std.{◌≡◌, All}
use Rattle.std.proofs.Props.{props}
use Rattle.std.specs.Global.{Global}
use Rattle.std.specs.Prelude.{Vec}
use Rattle.object_store.proofs.Replaced.{with_item_same}
use Rattle.pack_index.specs.Lazy.{LazyIndex}
use mathlib.Core.HLevel.{is_prop→PathP}
use Rattle.packtool_tests.proofs.memory.MemoryStore.part.Goals as goal

pub returns-clause-same : goal.returns-clause-same
returns-clause-same g c =
    let self = c.args.self.now in
    let OfKind : Vec LazyIndex Global → Type 0 = λ v. All (λ (index : LazyIndex). index.kind ≡ self.kind) v.items in
    let stays : (v : Vec LazyIndex Global) (kind : OfKind v) (loose : self.loose.kind ≡ self.kind) → v ≡ self.packs
    → record self { packs = v; of_kind = kind; loose_kind = loose } ≡ self =
    λ v kind loose same i. record self {
      packs = same i;
      of_kind = is_prop→PathP (λ j. OfKind (same j)) (λ j. hlevel props) kind self.of_kind i;
      loose_kind = is_prop→PathP (λ _. self.loose.kind ≡ self.kind) (λ _. hlevel props) loose self.loose_kind i;
    } in
    stays _ _ _ (with_item_same self.packs c.args.at c.part.new.self (rw c.part.ensures.same c.index_mut.ensures.value))
