use Rattle.gix_hash.proofs.Std.{map, string_bytes}
use Rattle.directory_store.specs.Stores.{index_path}
use Rattle.directory_store.proofs.Wholes.{has_all}
use Rattle.directory_store.proofs.store.DirectoryStore.skipped.Goals as goal

pub returns-clause-objects : goal.returns-clause-objects
returns-clause-objects g c =
    let self = c.args.self.now in
    has_all (g.R.Directories.answers self.rt) self.purpose self.directory (map string_bytes self.directories.paths.items) self.skipped.items (map index_path self.packs.items) self.indexes.items
    self.loose self.loose_before.items self.are_opened self.are_loose
