use Rattle.gix_hash.proofs.Std.{◌∙◌, ◌+◌, ◌++◌, ◌∷◌, List, [], ap, arith, get_or, map, string_bytes, subst, sym, take, take_all, ℕ}
use Rattle.std.specs.Global.{Global}
use Rattle.std.specs.List.{sum_by}
use Rattle.std.specs.Prelude.{String}
use Rattle.std.proofs.lemmas.List.{map_more}
use Rattle.std.proofs.lemmas.List.Sums.{sum_by_more}
use Rattle.directory_store.specs.Packs.{AreIndexes, AreIndexesIn, unnamed_in}
use Rattle.directory_store.specs.Stores.{index_path}
use Rattle.directory_store.proofs.IndexLists.{one_directory}
use Rattle.directory_store.proofs.packs.PackDirectories.list.Goals as goal

pub loop-directory-preserved : goal.loop-directory-preserved
loop-directory-preserved g c =
    let directories = c.args.self.now.paths.items in
    let index = c.loop-directory.directory-index in
    let item = c.directory-item.result in
    let same = ap (λ all. get_or all index item) (sym c.deref-directory-items.ensures.value) ∙ sym c.directory-item.is in
    record {
      all = c.push_indexes.ensures.all ∙ c.loop-directory.invariant.all;
      indexes = λ at known.
          let new = map index_path c.push_indexes.new.indexes.paths.items in
          let one = c.in_ok-push_indexes.ensures.indexes at known in
          let more = map_more string_bytes directories index item (omega (arith, c.deref-directory-items.ensures.len)) ∙ ap (λ d. map string_bytes (take index directories) ++ string_bytes d ∷ []) same in
          subst (λ (all : List (List ℕ)). AreIndexes at all new) (sym more)
          (one_directory at _ _ new one.0 (string_bytes item) (c.loop-directory.invariant.indexes at known) (subst (λ (d : List ℕ). AreIndexesIn at d one.0) c.deref.ensures one.1) one.2);
      skipped = λ at known.
          let count : String Global → ℕ = λ path. unnamed_in at (string_bytes path) in
          let more = sum_by_more count directories index item (omega (arith, c.deref-directory-items.ensures.len)) ∙ ap (λ d. sum_by count (take index directories) + count d) same in
          c.in_ok-push_indexes.ensures.skipped at known ∙ (λ i. c.loop-directory.invariant.skipped at known i + unnamed_in at (c.deref.ensures i)) ∙ sym more;
    }

pub returns-clause-indexes : goal.returns-clause-indexes
returns-clause-indexes g c = λ at known.
    subst (λ directories. AreIndexes at (map string_bytes directories) (map index_path c.loop-directory.indexes.paths.items))
    (take_all c.loop-directory.directory-index c.args.self.now.paths.items (omega arith)) (c.loop-directory.invariant.indexes at known)

pub returns-clause-skipped : goal.returns-clause-skipped
returns-clause-skipped g c = λ at known.
    c.loop-directory.invariant.skipped at known ∙ ap (sum_by (λ path. unnamed_in at (string_bytes path))) (take_all c.loop-directory.directory-index c.args.self.now.paths.items (omega arith))
