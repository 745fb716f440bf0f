use Rattle.gix_hash.proofs.Std.{map, string_bytes}
use Rattle.directory_store.specs.Stores.{index_path}
use Rattle.directory_store.proofs.Wholes.{has_all, if_any}
use Rattle.directory_store.proofs.store.DirectoryStore.open_for_refresh.Goals as goal

pub returns-clause-objects : goal.returns-clause-objects
returns-clause-objects g c = if_any _ (λ store. has_all (g.R.Directories.answers store.rt) store.purpose store.directory (map string_bytes store.directories.paths.items) store.skipped.items
    (map index_path store.packs.items) store.indexes.items store.loose store.loose_before.items store.are_opened store.are_loose) c.open_at.result
