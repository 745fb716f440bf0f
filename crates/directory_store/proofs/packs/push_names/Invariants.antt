use Rattle.gix_hash.proofs.Std.{◌≡◌, ◌++◌, ◌+◌, count_by, flat_map, map, not, take, vec_len}
use Rattle.std.specs.Str.{is_utf8}
use Rattle.directory_store.specs.Packs.{index_in}
use Rattle.directory_store.specs.Stores.{index_path}
use Rattle.directory_store.proofs.packs.push_names.Given as goal

abbrev pub invariant-loop-name : goal.invariant-loop-name
invariant-loop-name g l = record {
  all : l.indexes.are_all ≡ l.fn.indexes.are_all;
  indexes : map index_path l.indexes.paths.items ≡ map index_path l.fn.indexes.paths.items ++ flat_map (index_in l.directory) (map (λ name. name.now) (take l.name-index l.names));
  skipped : vec_len l.indexes.skipped ≡ vec_len l.fn.indexes.skipped + count_by (λ name. not (is_utf8 name)) (map (λ name. name.now) (take l.name-index l.names));
}
