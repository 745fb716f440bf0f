use Rattle.gix_hash.proofs.Std.{◌≡◌, ◌∷◌, [], map, All, string_bytes, subst, sym}
use Rattle.std.proofs.Props.{props}
use Rattle.std.specs.Global.{Global}
use Rattle.std.specs.Prelude.{Vec}
use Rattle.object_store.proofs.Replaced.{with_item_same}
use Rattle.pack_index.specs.Lazy.{LazyIndex}
use Rattle.repositories.specs.Answers.{IfKnown}
use Rattle.directory_store.specs.Opened.{AreLooseOf, AreOpened, HaveReasons}
use Rattle.directory_store.specs.Stores.{index_path}
use mathlib.Core.HLevel.{is_prop→PathP}
use Rattle.directory_store.proofs.store.DirectoryStoreStore.part.Goals as goal

pub invariant_of-self-clause-are_opened : goal.invariant_of-self-clause-are_opened
invariant_of-self-clause-are_opened g c =
    let self = c.args.self.now in
    subst (λ (v : Vec LazyIndex Global). ∥ (self.skipped.items ≡ []
    → IfKnown (λ at. AreOpened at self.purpose self.directory (map string_bytes self.directories.paths.items) (map index_path self.packs.items) v.items) (g.R.Directories.answers self.rt)) ∥₁)
    (sym (with_item_same self.indexes c.args.at c.part.new.self (rw c.part.ensures.same c.index_mut.ensures.value))) self.are_opened

pub invariant_of-self-clause-of_kind : goal.invariant_of-self-clause-of_kind
invariant_of-self-clause-of_kind g c =
    let self = c.args.self.now in
    subst (λ (v : Vec LazyIndex Global). All (λ (index : LazyIndex). index.kind ≡ self.directory.kind) v.items)
    (sym (with_item_same self.indexes c.args.at c.part.new.self (rw c.part.ensures.same c.index_mut.ensures.value))) self.of_kind

pub returns-clause-same : goal.returns-clause-same
returns-clause-same g c =
    let self = c.args.self.now in
    let OfPaths : Vec LazyIndex Global → Type 0 = λ v. map index_path self.packs.items ≡ map (λ (index : LazyIndex). index.path) v.items in
    let OfKind : Vec LazyIndex Global → Type 0 = λ v. All (λ (index : LazyIndex). index.kind ≡ self.directory.kind) v.items in
    let Opened : Vec LazyIndex Global → Type 0 = λ v. ∥ (self.skipped.items ≡ []
    → IfKnown (λ at. AreOpened at self.purpose self.directory (map string_bytes self.directories.paths.items) (map index_path self.packs.items) v.items) (g.R.Directories.answers self.rt)) ∥₁ in
    let Listed : Type 0 = ∥ IfKnown (λ at. All (AreLooseOf at self.directory.kind (map string_bytes self.directories.paths.items)) (self.loose ∷ self.loose_before.items)) (g.R.Directories.answers self.rt) ∥₁ in
    let Reasons : Type 0 = HaveReasons (g.R.Directories.answers self.rt) self.purpose self.directory (map index_path self.packs.items) self.skipped.items in
    let stays : (v : Vec LazyIndex Global) (paths : OfPaths v) (kind : OfKind v) (loose : self.loose.kind ≡ self.directory.kind) (before : All (λ l. l.kind ≡ self.directory.kind) self.loose_before.items)
    (opened : Opened v) (listed : Listed) (reasons : Reasons)
    → v ≡ self.indexes → record self { indexes = v; of_paths = paths; of_kind = kind; loose_of_kind = loose; before_of_kind = before; are_opened = opened; are_loose = listed; have_reasons = reasons } ≡ self =
    λ v paths kind loose before opened listed reasons same i. record self {
      indexes = same i;
      of_paths = is_prop→PathP (λ j. OfPaths (same j)) (λ j. hlevel props) paths self.of_paths i;
      of_kind = is_prop→PathP (λ j. OfKind (same j)) (λ j. hlevel props) kind self.of_kind i;
      loose_of_kind = is_prop→PathP (λ _. self.loose.kind ≡ self.directory.kind) (λ _. hlevel props) loose self.loose_of_kind i;
      before_of_kind = is_prop→PathP (λ _. All (λ l. l.kind ≡ self.directory.kind) self.loose_before.items) (λ _. hlevel props) before self.before_of_kind i;
      are_opened = is_prop→PathP (λ j. Opened (same j)) (λ j. hlevel props) opened self.are_opened i;
      are_loose = is_prop→PathP (λ _. Listed) (λ _. hlevel props) listed self.are_loose i;
      have_reasons = is_prop→PathP (λ _. Reasons) (λ _. hlevel props) reasons self.have_reasons i;
    } in
    stays _ _ _ _ _ _ _ _ (with_item_same self.indexes c.args.at c.part.new.self (rw c.part.ensures.same c.index_mut.ensures.value))
