use Rattle.gix_hash.proofs.Std.{◌∙◌, ◌∷◌, [], IsOk, ap, map, option_map, subst, sym}
use Rattle.std.specs.Option.{ForSome}
use Rattle.pack_index.specs.Lazy.{tables_of}
use Rattle.pack_index.specs.Multi.{IsReadAsMulti}
use Rattle.directory_store.specs.Multi.{AreInstead, AreSplit, named_in}
use Rattle.directory_store.specs.Packs.{bytes_at}
use Rattle.directory_store.specs.Stores.{index_path}
use Rattle.directory_store.proofs.Covers.{opened_instead, some_found, some_is}
use Rattle.directory_store.proofs.multi.open_at.Goals as goal

pub returns-clause-instead : goal.returns-clause-instead
returns-clause-instead g c = λ at known.
    let kind = c.args.kind in
    let directory = c.args.directory.now in
    let path = index_path c.in_ok-paths.paths in
    let listed = map index_path c.args.listed.now in
    let named = map index_path c.in-Some-2.named.items in
    let left = map index_path c.in-Some-3.left.items in
    let multi = c.in-Ok-Some.multi in
    let of = c.in-Ok-Some.ensures in
    let is = c.in-Ok-Some.field-0-is in
    let same = some_is _ _ multi is of.content in
    let content = some_is _ _ c.in-Some.source c.in-Some.is c.in_ok-source.ensures.content at known in
    let read = some_is _ _ c.in-Some.source c.in-Some.is c.in_ok-source.ensures.read at known in
    let are_named = some_is _ _ c.in-Some-2.named c.in-Some-2.is c.in_ok-named.ensures ∙ ap (named_in directory) c.deref-2.ensures.value in
    let split = subst (λ n. AreSplit listed (map index_path n) left) c.deref-3.ensures.value (some_is _ _ c.in-Some-3.left c.in-Some-3.is c.in_ok-left.ensures) in
    subst (λ k. AreInstead at kind (directory ∷ []) listed (path ∷ []) left (option_map (tables_of k multi.ids.layout) multi.ids.content ∷ [])) (sym (some_is _ _ multi is of.kind))
    (opened_instead at kind directory path multi.names.items listed named left multi.ids.content multi.ids.layout c.in_ok-paths.ensures
    (same ∙ content ∙ ap (bytes_at at) c.deref.ensures) (subst (λ p. IsOk (at.bytes p)) c.deref.ensures read)
    (subst (λ o. ForSome o (λ bytes. IsReadAsMulti kind bytes multi.ids.layout multi.names.items)) (sym same) (λ bytes there. some_found _ _ _ multi is (of.read bytes there))) are_named split)
