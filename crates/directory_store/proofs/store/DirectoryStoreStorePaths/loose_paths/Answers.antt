use Rattle.gix_hash.proofs.Std.{◌∙◌, ◌+◌, ◌<◌, ℕ, List, ◌++◌, Decides, ap, arith, flat_map, length, length-map, string_bytes, subst, sym, take, take_all}
use Rattle.gix_hash.specs.Words.{id_digits}
use Rattle.object_store.proofs.LooseParts.{any_decides}
use Rattle.directory_store.specs.Stores.{paths_in, paths_in_all}
use Rattle.directory_store.specs.declared.loose.LooseDirectory.{LooseDirectory}
use Rattle.directory_store.proofs.DirectoryTables.{has_path, one_directory}
use Rattle.directory_store.proofs.store.DirectoryStoreStorePaths.loose_paths.Goals as goal

pub loop-directory-preserved : goal.loop-directory-preserved
loop-directory-preserved g c =
    let Paths : LooseDirectory → List (List ℕ) = λ directory. paths_in (string_bytes directory.path) directory.table.ids (id_digits c.args.id.now) in
    let same = c.deref-directory-items.ensures.value in
    let at : ℕ = c.loop-directory.directory-index in
    c.in_ok-push_path.ensures
    ∙ ap (λ paths. paths ++ Paths c.directory-item.result) (c.loop-directory.invariant ∙ ap (λ directories. flat_map Paths (take at directories)) (sym same))
    ∙ one_directory Paths c.deref-directory-items.result.now at c.directory-item.result (omega arith) c.directory-item.is
    ∙ ap (λ directories. flat_map Paths (take (at + 1) directories)) same

pub returns-clause-some : goal.returns-clause-some
returns-clause-some g c =
    let digits = id_digits c.args.id.now in
    let loose = c.args.self.now.loose in
    let directories = loose.directories.items in
    let whole = take_all c.loop-directory.directory-index directories (omega (arith, ap length c.deref-directory-items.ensures.value)) in
    let many = sym (length-map c.loop-directory.paths.items string_bytes) ∙ ap length (c.loop-directory.invariant ∙ ap (λ all. paths_in_all all digits) whole) in
    let has = subst (λ any. Decides any (0 < length (paths_in_all directories digits))) (sym (loose.all digits)) (has_path directories digits) in
    let contains = any_decides loose.table.ids digits in (
      λ some. contains.0 (has.1 (omega (arith, many, some))),
      λ is. omega (arith, many, has.0 (contains.1 is)),
    )
