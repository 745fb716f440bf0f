use Rattle.gix_hash.proofs.Std.{All, [], ◌≡◌, ◌+◌, map, take, vec_len}
use Rattle.pack_index.specs.Lazy.{LazyIndex}
use Rattle.repositories.specs.Answers.{IfKnown}
use Rattle.directory_store.specs.Packs.{AreOpenOrDamaged, tables_at, tables_seen}
use Rattle.directory_store.specs.Stores.{index_path}
use Rattle.directory_store.proofs.packs.open_all.Given as goal

abbrev pub invariant-loop-at : goal.invariant-loop-at
invariant-loop-at g l = record {
  kinds : All (λ (index : LazyIndex). index.kind ≡ l.kind) l.indexes.items;
  of_paths : map index_path l.paths.items ≡ map (λ (index : LazyIndex). index.path) l.indexes.items;
  tables : IfKnown (λ at. tables_seen l.indexes.items ≡ map (tables_at at l.kind) (map index_path l.paths.items)) (g.R.Directories.answers l.rt);
  all : vec_len l.indexes + vec_len l.skipped ≡ l.at;
  skipped : IfKnown (λ at. AreOpenOrDamaged at l.kind (map index_path (take l.at l.listed)) (map index_path l.paths.items) l.skipped.items) (g.R.Directories.answers l.rt);
  paths : l.skipped.items ≡ [] → map index_path l.paths.items ≡ map index_path (take l.at l.listed);
}
