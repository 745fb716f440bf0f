use Rattle.gix_hash.proofs.Std.{All, ◌≡◌, map, take}
use Rattle.gix_hash.specs.Words.{id_digits, id_kind}
use Rattle.repositories.specs.Answers.{Answers}
use Rattle.directory_store.specs.Loose.{AreLooseIn, HasNamesAt}
use Rattle.directory_store.specs.declared.loose.FanOutNames.{FanOutNames}
use Rattle.directory_store.proofs.loose.directory_of.Given as goal

abbrev pub invariant-loop-part : goal.invariant-loop-part
invariant-loop-part g l = record {
  kinds : All (λ id. id_kind id ≡ l.kind) l.ids.items;
  loose : (at : Answers) → All (HasNamesAt at l.index l.path) l.parts → AreLooseIn at l.kind (map (λ (part : FanOutNames). part.byte) (take l.part-index l.parts)) l.path (map id_digits l.ids.items);
}
