use Rattle.gix_hash.proofs.Std.{◌≡◌, ◌++◌, ℕ, All, List, map, string_bytes, take}
use Rattle.pack_index.specs.Lazy.{LazyIndex}
use Rattle.repositories.specs.Answers.{IfKnown}
use Rattle.directory_store.specs.Multi.{AreInstead}
use Rattle.directory_store.specs.Packs.{tables_seen}
use Rattle.directory_store.specs.Stores.{index_path}
use Rattle.directory_store.proofs.multi.cover.Given as goal

abbrev pub invariant-loop-directory : goal.invariant-loop-directory
invariant-loop-directory g l = record {
  kinds : All (λ (multi : LazyIndex). multi.kind ≡ l.kind) l.multis.items;
  of_paths : map index_path l.paths.items ≡ map (λ (multi : LazyIndex). multi.path) l.multis.items;
  instead : IfKnown (λ at. (reached : List (List ℕ)) × (map index_path l.listed ≡ reached ++ map index_path l.rest)
      × AreInstead at l.kind (map string_bytes (take l.directory-index l.directories)) reached (map index_path l.paths.items) (map index_path l.left.items) (tables_seen l.multis.items))
      (g.R.Directories.answers l.rt);
}
