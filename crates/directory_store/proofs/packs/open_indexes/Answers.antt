use Rattle.std.proofs.lemmas.Result.{IfOk-weaker}
use Rattle.gix_hash.proofs.Std.{◌≡◌, ◌∙◌, [], IfOk, ap, false≢true, map, string_bytes, subst, sym}
use Rattle.repositories.specs.Answers.{IfKnown}
use Rattle.directory_store.specs.Multi.{AreCoveredOrDamaged, AreRead}
use Rattle.directory_store.specs.Packs.{tables_at, tables_seen}
use Rattle.directory_store.specs.Stores.{index_path}
use Rattle.directory_store.specs.declared.multi.Purpose.TheVariants.{Ids}
use Rattle.directory_store.proofs.Covers.{both_ok, damaged_alone, read_alone}
use Rattle.directory_store.proofs.packs.open_indexes.Goals.{Then-not-matches, in-Ids+in_ok-is_covered-in-Ids, in-Locations, then-is_covered, else-is_covered}
use Rattle.directory_store.proofs.packs.open_indexes.Goals as goal

pub returns-then-not-matches-clause-read : goal.returns-then-not-matches-clause-read
returns-then-not-matches-clause-read g c =
    let kind = c.args.kind in
    let places = map string_bytes c.args.directories.now in
    let listed = map index_path c.args.listed.now in
    elim c.if-is_covered.branch [
      | then-is_covered w ↦
          let is : Ids ≡ c.args.purpose = elim c.match-purpose.branch [
            | in-Ids+in_ok-is_covered-in-Ids w' ↦ sym w'.in-Ids.is
            | in-Locations w' ↦ absurd (false≢true (sym w'.is_covered-is ∙ w.if-is_covered.true))
          ] in
          rw w.opened-is (subst (λ purpose. IfOk w.open_covered-opened.result (λ opened. opened.skipped.items ≡ [] → IfKnown (λ at. AreRead at purpose kind places listed
          (map index_path opened.paths.items) (tables_seen opened.indexes.items)) (g.R.Directories.answers c.args.rt.now))) is w.open_covered-opened.ensures.read)
      | else-is_covered w ↦ rw w.opened-is (both_ok _ _ _ w.open_all-opened.result w.open_all-opened.ensures.tables w.open_all-opened.ensures.paths (λ opened tables paths none at known.
          subst (λ p. AreRead at c.args.purpose kind places listed p (tables_seen opened.indexes.items)) (sym (paths none))
          (read_alone at kind c.args.purpose places listed (tables_seen opened.indexes.items) (tables at known ∙ ap (map (tables_at at kind)) (paths none)))))
    ]

pub returns-then-not-matches-clause-skipped : goal.returns-then-not-matches-clause-skipped
returns-then-not-matches-clause-skipped g c =
    let kind = c.args.kind in
    let places = map string_bytes c.args.directories.now in
    let listed = map index_path c.args.listed.now in
    elim c.if-is_covered.branch [
      | then-is_covered w ↦
          let is : Ids ≡ c.args.purpose = elim c.match-purpose.branch [
            | in-Ids+in_ok-is_covered-in-Ids w' ↦ sym w'.in-Ids.is
            | in-Locations w' ↦ absurd (false≢true (sym w'.is_covered-is ∙ w.if-is_covered.true))
          ] in
          rw w.opened-is (subst (λ purpose. IfOk w.open_covered-opened.result (λ opened. IfKnown (λ at. AreCoveredOrDamaged at purpose kind places listed
          (map index_path opened.paths.items) opened.skipped.items) (g.R.Directories.answers c.args.rt.now))) is w.open_covered-opened.ensures.skipped)
      | else-is_covered w ↦ rw w.opened-is (IfOk-weaker w.open_all-opened.result _ _ (λ opened are at known. damaged_alone at kind c.args.purpose places listed _ _ (are at known)) w.open_all-opened.ensures.skipped)
    ]

pub returns-clause-read : goal.returns-clause-read
returns-clause-read g c =
    let kind = c.args.kind in
    let places = map string_bytes c.args.directories.now in
    let listed = map index_path c.args.listed.now in
    both_ok _ _ _ c.open_all.result c.open_all.ensures.tables c.open_all.ensures.paths (λ opened tables paths none at known.
    subst (λ p. AreRead at c.args.purpose kind places listed p (tables_seen opened.indexes.items)) (sym (paths none))
    (read_alone at kind c.args.purpose places listed (tables_seen opened.indexes.items) (tables at known ∙ ap (map (tables_at at kind)) (paths none))))

pub returns-clause-skipped : goal.returns-clause-skipped
returns-clause-skipped g c =
    IfOk-weaker c.open_all.result _ _ (λ opened are at known. damaged_alone at c.args.kind c.args.purpose (map string_bytes c.args.directories.now) (map index_path c.args.listed.now) _ _ (are at known))
    c.open_all.ensures.skipped
