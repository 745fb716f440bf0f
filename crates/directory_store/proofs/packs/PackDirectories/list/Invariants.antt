use Rattle.gix_hash.proofs.Std.{◌≡◌, map, string_bytes, sum_by, take, true, vec_len}
use Rattle.repositories.specs.Answers.{IfKnown}
use Rattle.directory_store.specs.Packs.{AreIndexes, unnamed_in}
use Rattle.directory_store.specs.Stores.{index_path}
use Rattle.directory_store.proofs.packs.PackDirectories.list.Given as goal

abbrev pub invariant-loop-directory : goal.invariant-loop-directory
invariant-loop-directory g l = record {
  all : l.indexes.are_all ≡ true;
  indexes : IfKnown (λ at. AreIndexes at (map string_bytes (take l.directory-index l.self.paths.items)) (map index_path l.indexes.paths.items)) (g.R.Directories.answers l.rt);
  skipped : IfKnown (λ at. vec_len l.indexes.skipped ≡ sum_by (λ path. unnamed_in at (string_bytes path)) (take l.directory-index l.self.paths.items)) (g.R.Directories.answers l.rt);
}
