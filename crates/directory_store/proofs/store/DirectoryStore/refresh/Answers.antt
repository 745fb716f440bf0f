use Rattle.gix_hash.proofs.Std.{map, string_bytes}
use Rattle.directory_store.specs.Stores.{index_path}
use Rattle.directory_store.proofs.Wholes.{has_all, if_any}
use Rattle.directory_store.proofs.store.DirectoryStore.refresh.Goals as goal

pub returns-in_default-2-clause-objects : goal.returns-in_default-2-clause-objects
returns-in_default-2-clause-objects g c =
    let self = c.look_again.new.self in
    if_any (λ _. _) (λ _. has_all (g.R.Directories.answers self.rt) self.purpose self.directory (map string_bytes self.directories.paths.items) self.skipped.items
    (map index_path self.packs.items) self.indexes.items self.loose self.loose_before.items self.are_opened self.are_loose) c.look_again.result

pub returns-clause-objects : goal.returns-clause-objects
returns-clause-objects g c =
    let self = c.in_ok-self.field-0 in
    has_all (g.R.Directories.answers self.rt) self.purpose self.directory (map string_bytes self.directories.paths.items) self.skipped.items
    (map index_path self.packs.items) self.indexes.items self.loose self.loose_before.items self.are_opened self.are_loose
