use Rattle.gix_hash.proofs.Std.{◌≡◌, ◌∙◌, ◌+◌, ◌++◌, ◌∷◌, [], ap, arith, bytes_eq-Decides, eqb-true, length, map, map-append, nil_from_length, subst, sym, take, take_all}
use Rattle.std.proofs.lemmas.List.{map_more}
use Rattle.directory_store.specs.Multi.{AreSplit}
use Rattle.directory_store.specs.Stores.{index_path}
use Rattle.directory_store.proofs.Covers.{IsSplitSoFar, one_left, one_named, split_done}
use Rattle.directory_store.proofs.multi.split.Goals.{in-Some+then-eq, in_default+in_ok-copy+in_ok-push, then-is_empty, else-is_empty}
use Rattle.directory_store.proofs.multi.split.Goals as goal

pub loop-paths-preserved : goal.loop-paths-preserved
loop-paths-preserved c =
    let listed = c.args.listed.now in
    let named = map index_path c.args.named.now in
    let item = c.paths-item.result in
    let path = index_path item in
    let reached = map index_path (take c.loop-paths.paths-index listed) in
    let left = c.loop-paths.left.items in
    let more : map index_path (take (c.loop-paths.paths-index + 1) listed) ≡ reached ++ path ∷ [] =
    map_more index_path listed c.loop-paths.paths-index item (omega arith) ∙ ap (λ p. reached ++ index_path p ∷ []) (sym c.paths-item.is) in
    elim c.match-split_first.branch [
      | in-Some+then-eq w ↦
          let next = w.in-Some.next.now in
          let others = map index_path w.in-Some.others.now in
          let same : index_path next ≡ path = (bytes_eq-Decides (index_path next) path).0 (sym w.eq.ensures ∙ w.if-eq.true) in
          let rest = ap (map index_path) w.in-Some.ensures.cases.0 ∙ ap (λ p. p ∷ others) same in
          rw (w.left-is, w.rest-is) (subst (λ r. IsSplitSoFar r named others (map index_path left)) (sym more)
          (one_named reached named others (map index_path left) path (subst (λ r. IsSplitSoFar reached named r (map index_path left)) rest c.loop-paths.invariant)))
      | in_default+in_ok-copy+in_ok-push w ↦
          let rest = map index_path c.loop-paths.rest.now in
          let copy = w.in_ok-copy.field-0 in
          let pushed = map-append index_path left (copy ∷ []) ∙ ap (λ p. map index_path left ++ p ∷ []) w.in_ok-copy.ensures.index in
          rw (w.left-is, w.rest-is, w.in_ok-push.ensures.items) (subst (λ l. IsSplitSoFar (map index_path (take (c.loop-paths.paths-index + 1) listed)) named rest l) (sym pushed)
          (subst (λ r. IsSplitSoFar r named rest (map index_path left ++ path ∷ [])) (sym more) (one_left reached named rest (map index_path left) path c.loop-paths.invariant)))
    ]

pub returns : goal.returns
returns c =
    let named = map index_path c.args.named.now in
    let left = map index_path c.loop-paths.left.items in
    elim c.if-is_empty.branch [
      | then-is_empty w ↦
          let rest = c.loop-paths.rest.now in
          let none = nil_from_length rest (eqb-true (length rest) 0 (sym c.is_empty.ensures ∙ w.if-is_empty.true)) in
          rw w.result-is (subst (λ l. AreSplit (map index_path l) named left) (take_all c.loop-paths.paths-index c.args.listed.now (omega arith))
          (split_done _ named left (subst (λ r. IsSplitSoFar (map index_path (take c.loop-paths.paths-index c.args.listed.now)) named (map index_path r) left) none c.loop-paths.invariant)))
      | else-is_empty w ↦ rw w.result-is tt
    ]
