use Rattle.gix_hash.proofs.Std.{All, List, ℕ, ◌≡◌, ◌+◌, ◌++◌, ◌∷◌, [], ◌∙◌, ap, arith, get_or, length, map, refl, subst, sym, take, vec_len, All-push, map-append}
use Rattle.std.proofs.lemmas.List.{map_more}
use Rattle.pack_index.specs.Lazy.{LazyIndex, seen}
use Rattle.directory_store.specs.Packs.{AreOpenOrDamaged, IsDamagedAt, tables_at}
use Rattle.directory_store.specs.Stores.{index_path}
use Rattle.directory_store.proofs.Damage.{one_damaged, one_open}
use Rattle.directory_store.proofs.Members.{one_more}
use Rattle.directory_store.proofs.packs.open_all.Goals.{in-Ok+in_ok-copy-in-Ok+in_ok-push-in-Ok+in_ok-push-in-Ok-2, in-Err+in_ok-push-in-Err}
use Rattle.directory_store.proofs.packs.open_all.Goals as goal

pub loop-at-preserved : goal.loop-at-preserved
loop-at-preserved g c =
    let IsOfKind = λ (index : LazyIndex). index.kind ≡ c.args.kind in
    let listed = c.args.listed.now in
    let reached = map index_path (take c.loop-at.at listed) in
    let next = index_path (get_or listed c.loop-at.at c.index-listed-at.result) in
    let more = map_more index_path listed c.loop-at.at c.index-listed-at.result (omega (arith, c.loop-at-test.true)) in
    elim c.match-open_pack_index.branch [
      | in-Ok+in_ok-copy-in-Ok+in_ok-push-in-Ok+in_ok-push-in-Ok-2 w ↦
          let paths = c.loop-at.paths.items in
          let indexes = c.loop-at.indexes.items in
          let copy = w.in_ok-copy-in-Ok.field-0 in
          let path = w.in_ok-copy-in-Ok.ensures.index ∙ sym c.deref.ensures in
          let opened = map index_path paths in
          let is = w.in_ok-copy-in-Ok.ensures.index ∙ ap index_path c.index-listed-at.is in
          let one_opened : (before : List (List ℕ)) → opened ≡ before → map index_path (paths ++ copy ∷ []) ≡ before ++ next ∷ [] =
          λ before same. map-append index_path paths (copy ∷ []) ∙ (λ i. same i ++ is i ∷ []) in record {
            kinds = rw w.indexes-is (subst (All IsOfKind) (sym w.in_ok-push-in-Ok-2.ensures.items) (All-push IsOfKind indexes w.in-Ok.index c.loop-at.invariant.kinds w.in-Ok.ensures.kind));
            of_paths = rw (w.paths-is, w.indexes-is, w.in_ok-push-in-Ok.ensures.items, w.in_ok-push-in-Ok-2.ensures.items)
                (one_more index_path (λ (index : LazyIndex). index.path) paths indexes copy w.in-Ok.index (path ∙ sym w.in-Ok.ensures.path) c.loop-at.invariant.of_paths);
            tables = λ at known. rw (w.paths-is, w.indexes-is, w.in_ok-push-in-Ok.ensures.items, w.in_ok-push-in-Ok-2.ensures.items) (sym (
                ap (map (tables_at at c.args.kind)) (map-append index_path paths (copy ∷ []))
                ∙ one_more (tables_at at c.args.kind) (λ (index : LazyIndex). (seen index).tables) (map index_path paths) indexes (index_path copy) w.in-Ok.index
                (ap (tables_at at c.args.kind) path ∙ sym (w.in-Ok.ensures.tables at known)) (sym (c.loop-at.invariant.tables at known))
                ));
            all = omega (arith, ap vec_len w.indexes-is, w.in_ok-push-in-Ok-2.ensures.len, ap vec_len w.skipped-is, c.loop-at.invariant.all);
            skipped = λ at known. rw (w.paths-is, w.skipped-is, w.in_ok-push-in-Ok.ensures.items) (
                subst (λ (opened : List (List ℕ)). AreOpenOrDamaged at c.args.kind (map index_path (take (c.loop-at.at + 1) listed)) opened c.loop-at.skipped.items) (sym (one_opened opened refl))
                (subst (λ (paths : List (List ℕ)). AreOpenOrDamaged at c.args.kind paths (opened ++ next ∷ []) c.loop-at.skipped.items) (sym more)
                (one_open at c.args.kind reached opened c.loop-at.skipped.items (c.loop-at.invariant.skipped at known) next))
                );
            paths = λ none. rw (w.paths-is, w.in_ok-push-in-Ok.ensures.items) (one_opened reached (c.loop-at.invariant.paths (ap (λ v. v.items) (sym w.skipped-is) ∙ none)) ∙ sym more);
          }
      | in-Err+in_ok-push-in-Err w ↦ record {
        kinds = rw w.indexes-is c.loop-at.invariant.kinds;
        of_paths = rw (w.paths-is, w.indexes-is) c.loop-at.invariant.of_paths;
        tables = λ at known. rw (w.paths-is, w.indexes-is) (c.loop-at.invariant.tables at known);
        all = omega (arith, ap vec_len w.indexes-is, ap vec_len w.skipped-is, w.in_ok-push-in-Err.ensures.len, c.loop-at.invariant.all);
        skipped = λ at known.
            let error = w.in-Err.error in
            let damage = w.in-Err.ensures.damage (sym w.is_damage.ensures ∙ w.if-is_damage.true) at known in
            let is : IsDamagedAt at c.args.kind next error = subst (λ (path : List ℕ). IsDamagedAt at c.args.kind path error) (c.deref.ensures ∙ ap index_path c.index-listed-at.is) damage in
            rw (w.paths-is, w.skipped-is, w.in_ok-push-in-Err.ensures.items) (
            subst (λ (paths : List (List ℕ)). AreOpenOrDamaged at c.args.kind paths (map index_path c.loop-at.paths.items) (c.loop-at.skipped.items ++ error ∷ [])) (sym more)
            (one_damaged at c.args.kind reached (map index_path c.loop-at.paths.items) c.loop-at.skipped.items (c.loop-at.invariant.skipped at known) next error is));
        paths = λ none. absurd (omega (arith, ap length none, ap vec_len w.skipped-is, w.in_ok-push-in-Err.ensures.len));
      }
    ]
