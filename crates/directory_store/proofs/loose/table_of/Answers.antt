use Rattle.gix_hash.proofs.Std.{◌∙◌, List, ℕ, ap, arith, flat_map, map, take_all}
use Rattle.gix_hash.specs.Words.{id_digits}
use Rattle.directory_store.specs.Stores.{has_id}
use Rattle.directory_store.specs.declared.loose.LooseDirectory.{LooseDirectory}
use Rattle.directory_store.proofs.DirectoryTables.{has_any, same_ids}
use Rattle.directory_store.proofs.loose.table_of.Goals as goal

pub returns-clause-all : goal.returns-clause-all
returns-clause-all c = λ digits.
    let ids : LooseDirectory → List (List ℕ) = λ directory. directory.table.ids in
    let directories = c.args.directories.now in
    same_ids (map id_digits c.loop-directory.ids.items) c.new.result.ids digits c.new.ensures.index.members
    ∙ ap (has_id digits) (c.loop-directory.invariant.ids ∙ ap (flat_map ids) (take_all c.loop-directory.directory-index directories (omega arith)))
    ∙ has_any ids directories digits
