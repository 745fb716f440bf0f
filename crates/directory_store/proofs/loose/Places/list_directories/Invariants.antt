use Rattle.gix_hash.proofs.Std.{All, ◌≡◌, map, string_bytes, take}
use Rattle.repositories.specs.Answers.{IfKnown}
use Rattle.directory_store.specs.Loose.{HasAllLoose}
use Rattle.directory_store.specs.declared.loose.LooseDirectory.{LooseDirectory}
use Rattle.directory_store.proofs.loose.Places.list_directories.Given as goal

abbrev pub invariant-loop-index : goal.invariant-loop-index
invariant-loop-index g l = record {
  kinds : All (λ (directory : LooseDirectory). directory.table.kind ≡ l.kind) l.directories.items;
  paths : map (λ (directory : LooseDirectory). string_bytes directory.path) l.directories.items ≡ map string_bytes (take l.index l.self.paths.now);
  loose : IfKnown (λ at. All (HasAllLoose at l.kind l.fn.which) l.directories.items) (g.R.Directories.answers l.self.rt.now);
}
