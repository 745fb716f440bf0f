use Rattle.gix_hash.proofs.Std.{◌∙◌, ◌++◌, List, ℕ, [], ◌∷◌, append-nil, ap, cond, map, string_bytes, sym, map-append}
use Rattle.gix_hash.specs.Words.{id_digits}
use Rattle.object_store.proofs.LooseParts.{any_is}
use Rattle.directory_store.specs.Stores.{path_in}
use Rattle.directory_store.proofs.loose.push_path.Goals as goal

pub returns-in_ok-push : goal.returns-in_ok-push
returns-in_ok-push c =
    let digits = id_digits c.args.id.now in
    let any = any_is c.args.directory.now.table.ids digits c.contains.result c.contains.ensures in
    let path = c.in_ok-loose_path.ensures ∙ ap (λ (directory : List ℕ). path_in directory digits) c.deref.ensures in
    ap (map string_bytes) c.in_ok-push.ensures.items ∙ map-append string_bytes c.args.paths.now.items (c.in_ok-loose_path.field-0 ∷ [])
    ∙ (λ i. map string_bytes c.args.paths.now.items ++ cond ((sym c.if-contains.true ∙ any) i) (path i ∷ []) [])

pub returns-else-contains : goal.returns-else-contains
returns-else-contains c =
    let digits = id_digits c.args.id.now in
    let any = any_is c.args.directory.now.table.ids digits c.contains.result c.contains.ensures in
    sym (append-nil (map string_bytes c.args.paths.now.items))
    ∙ (λ i. map string_bytes c.args.paths.now.items ++ cond ((sym c.if-contains.false ∙ any) i) (path_in (string_bytes c.args.directory.now.path) digits ∷ []) [])
