use Rattle.gix_hash.proofs.Std.{All, All-push, List, ap, ap₂, arith, map, map-append, string_bytes, subst, sym, ◌++◌, ◌∙◌, ◌∷◌, ◌≡◌, [], ℕ}
use Rattle.std.proofs.lemmas.List.{map_more}
use Rattle.directory_store.specs.Loose.{AreLooseIn, HasAllLoose, HasNamesAt}
use Rattle.directory_store.specs.declared.loose.LooseDirectory.{LooseDirectory}
use Rattle.directory_store.specs.declared.loose.FanOutNames.{FanOutNames}
use Rattle.directory_store.proofs.LooseNames.{at_position}
use Rattle.directory_store.proofs.loose.Places.list_directories.Goals as goal

pub loop-index-preserved : goal.loop-index-preserved
loop-index-preserved g c =
    let kind = c.args.kind in
    let paths = c.args.self.now.paths.now in
    let index = c.loop-index.index in
    let item = c.path-item.result in
    let directories = c.loop-index.directories.items in
    let directory = c.in_ok-directory_of.field-0 in
    let path_of : LooseDirectory → List ℕ = λ directory. string_bytes directory.path in
    let path = c.in_ok-directory_of.ensures.path ∙ c.deref.ensures in
    record {
      kinds = subst (All (λ (directory : LooseDirectory). directory.table.kind ≡ kind)) (sym c.in_ok-push.ensures.items)
          (All-push (λ (directory : LooseDirectory). directory.table.kind ≡ kind) directories directory c.loop-index.invariant.kinds c.in_ok-directory_of.ensures.kind);
      paths = ap (map path_of) c.in_ok-push.ensures.items ∙ map-append path_of directories (directory ∷ [])
          ∙ ap₂ (λ (all : List (List ℕ)) (one : List ℕ). all ++ one ∷ []) c.loop-index.invariant.paths (path ∙ ap string_bytes c.path-item.is) ∙ sym (map_more string_bytes paths index item (omega arith));
      loose = λ at known.
          let all : All (HasNamesAt at index (string_bytes item)) c.in_ok-parts.parts.items = λ k d low.
          at_position at _ index paths _ item (c.in_ok-parts.ensures.names at known k d low) (omega arith) c.path-item.is in
          let named = subst (λ (path : List ℕ). All (HasNamesAt at index path) c.deref-in-loop-index.result.now) (sym c.deref.ensures) (subst (All (HasNamesAt at index (string_bytes item))) (sym c.deref-in-loop-index.ensures.value) all) in
          let bytes = ap (map (λ (part : FanOutNames). part.byte)) c.deref-in-loop-index.ensures.value ∙ c.in_ok-parts.ensures.bytes in
          let asked = subst (λ (bytes : List ℕ). AreLooseIn at kind bytes (path_of directory) directory.table.ids) bytes
          (subst (λ (path : List ℕ). AreLooseIn at kind (map (λ (part : FanOutNames). part.byte) c.deref-in-loop-index.result.now) path directory.table.ids) (sym c.in_ok-directory_of.ensures.path) (c.in_ok-directory_of.ensures.loose at named)) in
          subst (All (HasAllLoose at kind c.args.which)) (sym c.in_ok-push.ensures.items) (All-push (HasAllLoose at kind c.args.which) directories directory (c.loop-index.invariant.loose at known) asked);
    }
