use Rattle.gix_hash.proofs.Std.{◌≡◌, ◌∙◌, ◌+◌, ◌++◌, ◌∷◌, [], All, All-nil, All-push, ap, append-nil, append_assoc, arith, map, map-append, refl, string_bytes, subst, sym, take, take_all}
use Rattle.std.proofs.lemmas.List.{map_more}
use Rattle.pack_index.specs.Lazy.{LazyIndex, seen}
use Rattle.directory_store.specs.Multi.{AreInstead}
use Rattle.directory_store.specs.Packs.{tables_seen}
use Rattle.directory_store.specs.Stores.{index_path}
use Rattle.directory_store.proofs.Covers.{more_instead, none_instead, one_instead, some_is}
use Rattle.directory_store.proofs.Members.{one_more}
use Rattle.directory_store.proofs.multi.cover.Goals.{in-Some+in_ok-append-in-Some+in_ok-push-in-Some+in_ok-push-in-Some-2, in-None+in_ok-push_copies-in-None}
use Rattle.directory_store.proofs.multi.cover.Goals as goal

pub loop-directory-init : goal.loop-directory-init
loop-directory-init g c = record {
  kinds = rw c.new-multis.ensures.items (All-nil (λ (multi : LazyIndex). multi.kind ≡ c.args.kind));
  of_paths = rw (c.new-paths.ensures.items, c.new-multis.ensures.items) refl;
  instead = λ at known. ([], refl, rw (c.new-paths.ensures.items, c.new-left.ensures.items, c.new-multis.ensures.items) (none_instead at c.args.kind [] []));
}

pub loop-directory-preserved : goal.loop-directory-preserved
loop-directory-preserved g c =
    let IsOfKind = λ (multi : LazyIndex). multi.kind ≡ c.args.kind in
    let path_of = λ (multi : LazyIndex). multi.path in
    let tables_of = λ (multi : LazyIndex). (seen multi).tables in
    let kind = c.args.kind in
    let directories = c.args.directories.now in
    let item = c.directory-item.result in
    let place = string_bytes item in
    let index = c.loop-directory.directory-index in
    let places = map string_bytes (take index directories) in
    let more : map string_bytes (take (index + 1) directories) ≡ places ++ place ∷ [] =
    map_more string_bytes directories index item (omega arith) ∙ ap (λ d. places ++ string_bytes d ∷ []) (sym c.directory-item.is) in
    let here = map index_path c.split_at.result.0.now in
    let rest = map index_path c.split_at.result.1.now in
    let divided : map index_path c.loop-directory.rest.now ≡ here ++ rest = ap (map index_path) c.split_at.ensures.by_index.0 ∙ map-append index_path c.split_at.result.0.now c.split_at.result.1.now in
    let paths = c.loop-directory.paths.items in
    let multis = c.loop-directory.multis.items in
    let left = map index_path c.loop-directory.left.items in
    elim c.match-branch-2.branch [
      | in-Some+in_ok-append-in-Some+in_ok-push-in-Some+in_ok-push-in-Some-2 w ↦
          let multi = w.in-Some.multi in
          let others = map index_path multi.left.items in
          let one = some_is _ _ multi w.in-Some.is c.in_ok-multi.ensures.instead in record {
            kinds = rw w.multis-is (subst (All IsOfKind) (sym w.in_ok-push-in-Some-2.ensures.items)
                (All-push IsOfKind multis multi.ids c.loop-directory.invariant.kinds (some_is _ _ multi w.in-Some.is c.in_ok-multi.ensures.kind)));
            of_paths = rw (w.paths-is, w.multis-is, w.in_ok-push-in-Some.ensures.items, w.in_ok-push-in-Some-2.ensures.items)
                (one_more index_path path_of paths multis multi.paths multi.ids multi.of_path c.loop-directory.invariant.of_paths);
            instead = λ at known.
                let before = c.loop-directory.invariant.instead at known in
                let here_is = subst (λ d. AreInstead at kind (d ∷ []) here (index_path multi.paths ∷ []) others (tables_of multi.ids ∷ [])) c.deref-in-loop-directory.ensures (one at known) in (
                  before.0 ++ here,
                  before.1 ∙ ap (λ r. before.0 ++ r) divided ∙ sym (append_assoc before.0 here rest),
                  one_instead at kind places before.0 (map index_path paths) left here others place (index_path multi.paths) (tables_seen multis) (tables_of multi.ids)
                      (map string_bytes (take (index + 1) directories)) (map index_path c.match-branch-2.paths.items) (map index_path c.match-branch-2.left.items)
                      (tables_seen c.match-branch-2.multis.items) more
                      (ap (λ v. map index_path v.items) w.paths-is ∙ ap (map index_path) w.in_ok-push-in-Some.ensures.items ∙ map-append index_path paths (multi.paths ∷ []))
                      (ap (λ v. map index_path v.items) w.left-is ∙ ap (map index_path) w.in_ok-append-in-Some.ensures.items ∙ map-append index_path c.loop-directory.left.items multi.left.items)
                      (ap (λ v. tables_seen v.items) w.multis-is ∙ ap tables_seen w.in_ok-push-in-Some-2.ensures.items ∙ map-append tables_of multis (multi.ids ∷ []))
                      before.2 here_is,
                );
          }
      | in-None+in_ok-push_copies-in-None w ↦ record {
        kinds = rw w.multis-is c.loop-directory.invariant.kinds;
        of_paths = rw (w.paths-is, w.multis-is) c.loop-directory.invariant.of_paths;
        instead = λ at known.
            let before = c.loop-directory.invariant.instead at known in (
              before.0 ++ here,
              before.1 ∙ ap (λ r. before.0 ++ r) divided ∙ sym (append_assoc before.0 here rest),
              more_instead at kind places (place ∷ []) before.0 here (map index_path paths) left (tables_seen multis) (map string_bytes (take (index + 1) directories))
                  (map index_path c.match-branch-2.paths.items) (map index_path c.match-branch-2.left.items) (tables_seen c.match-branch-2.multis.items) more
                  (ap (λ v. map index_path v.items) w.paths-is) (ap (λ v. map index_path v.items) w.left-is ∙ w.in_ok-push_copies-in-None.ensures)
                  (ap (λ v. tables_seen v.items) w.multis-is) before.2,
            );
      }
    ]

pub returns-clause-instead : goal.returns-clause-instead
returns-clause-instead g c = λ at known.
    let kind = c.args.kind in
    let all = c.args.directories.now in
    let places = map string_bytes (take c.loop-directory.directory-index all) in
    let paths = map index_path c.loop-directory.paths.items in
    let left = map index_path c.push_copies-2.new.to.items in
    let tables = tables_seen c.loop-directory.multis.items in
    let before = c.loop-directory.invariant.instead at known in
    let rest = map index_path c.loop-directory.rest.now in
    subst (λ l. AreInstead at kind (map string_bytes all) l paths left tables) (sym before.1)
    (more_instead at kind places [] before.0 rest paths (map index_path c.loop-directory.left.items) tables (map string_bytes all) paths left tables
    (sym (append-nil places ∙ ap (map string_bytes) (take_all c.loop-directory.directory-index all (omega arith)))) refl c.in_ok-push_copies.ensures refl before.2)
