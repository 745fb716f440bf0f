use Rattle.gix_hash.proofs.Std.{map, string_bytes}
use Rattle.directory_store.specs.Stores.{index_path}
use Rattle.directory_store.proofs.Wholes.{has_all}
use Rattle.store_questions.proofs.asked.store_now.Goals as goal

pub returns-clause-objects : goal.returns-clause-objects
returns-clause-objects g c =
    let store = c.match-kept.store in
    has_all (g.R.Directories.answers store.rt) store.purpose store.directory (map string_bytes store.directories.paths.items) store.skipped.items
    (map index_path store.packs.items) store.indexes.items store.loose store.loose_before.items store.are_opened store.are_loose
