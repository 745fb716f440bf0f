use Rattle.gix_hash.proofs.Std.{◌≡◌, map, AllWithin}
use Rattle.id_lookup.specs.Indexes.{IsIndexUpTo}
use Rattle.id_lookup.proofs.index.IdIndex.try_new.Given as goal

abbrev pub invariant-loop-at : goal.invariant-loop-at
invariant-loop-at g l = record {
  index : IsIndexUpTo l.at l.kind (map g.I.Id.digits l.ids);
  kinds : AllWithin (λ id. g.I.Id.kind id ≡ l.kind) l.ids 0 l.at;
}
