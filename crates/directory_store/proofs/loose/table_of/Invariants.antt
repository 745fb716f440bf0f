use Rattle.gix_hash.proofs.Std.{All, ◌≡◌, flat_map, map, take}
use Rattle.gix_hash.specs.Words.{id_digits, id_kind}
use Rattle.directory_store.specs.declared.loose.LooseDirectory.{LooseDirectory}
use Rattle.directory_store.proofs.loose.table_of.Given as goal

abbrev pub invariant-loop-directory : goal.invariant-loop-directory
invariant-loop-directory l = record {
  kinds : All (λ id. id_kind id ≡ l.kind) l.ids.items;
  ids : map id_digits l.ids.items ≡ flat_map (λ (directory : LooseDirectory). directory.table.ids) (take l.directory-index l.directories);
}
