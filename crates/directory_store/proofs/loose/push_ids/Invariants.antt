use Rattle.gix_hash.proofs.Std.{All, ◌≡◌, map}
use Rattle.gix_hash.specs.Words.{id_kind}
use Rattle.directory_store.specs.Stores.{AppendsLooseIds}
use Rattle.directory_store.proofs.loose.push_ids.Given as goal

abbrev pub invariant-loop-name : goal.invariant-loop-name
invariant-loop-name l = record {
  kinds : All (λ id. id_kind id ≡ l.kind) l.fn.ids.items → All (λ id. id_kind id ≡ l.kind) l.ids.items;
  ids : AppendsLooseIds l.kind l.byte (map (λ name. name.now) l.yielded) l.fn.ids.items l.ids.items;
}
