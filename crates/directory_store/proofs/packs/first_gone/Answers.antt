use Rattle.gix_hash.proofs.Std.{◌≡◌, ℕ, ◌<◌, ◌∙◌, List, All, ap, arith, get_or, length, map, subst, sym, length-map, All-cons, Contains-get_or, bytes_eq-Decides, Contains}
use Rattle.std.proofs.Math.ListN.{get_or-map}
use Rattle.directory_store.specs.Stores.{IsListedPack, index_path}
use Rattle.directory_store.specs.declared.pack_paths.PackPaths.{PackPaths}
use Rattle.directory_store.proofs.packs.first_gone.Goals.{then-eq, else-eq}
use Rattle.directory_store.proofs.packs.first_gone.Goals as goal

-- a pack index is listed if one of the same path is
found : (listed : List PackPaths) (k : ℕ) (item next : PackPaths) → k < length listed → item ≡ get_or listed k item → index_path next ≡ index_path item
    → IsListedPack listed next
found listed k item next below is same =
    subst (Contains (map index_path listed)) (get_or-map index_path listed k item ∙ ap index_path (sym is) ∙ sym same)
    (Contains-get_or (map index_path listed) k (index_path item) (rw length-map below))

pub loop-paths-preserved : goal.loop-paths-preserved
loop-paths-preserved c =
    let Listed = IsListedPack c.args.listed.now in let next = c.in_ok-next.next.now in let item = c.paths-item.result in
    elim c.if-eq.branch [
      | then-eq w ↦ λ rest.
          let same : index_path next ≡ index_path item = (bytes_eq-Decides (index_path next) (index_path item)).0 (sym c.eq.ensures ∙ w.if-eq.true) in
          let one = found c.args.listed.now c.loop-paths.paths-index item next (omega arith) c.paths-item.is same in
          c.loop-paths.invariant (subst (All Listed) (sym c.in_ok-next.ensures.cases.0)
          (All-cons Listed next c.in_ok-next.rest.now one (subst (λ left. All Listed left.now) w.left-is rest)))
      | else-eq w ↦ λ rest. c.loop-paths.invariant (subst (λ left. All Listed left.now) w.left-is rest)
    ]
