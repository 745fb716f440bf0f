use Rattle.gix_hash.proofs.Std.{◌≡◌, ◌++◌, map, take, All}
use Rattle.id_lookup.specs.Words.{id_digits, id_kind, matches}
use Rattle.pack_index.proofs.bucket.push_each.Given as goal

abbrev pub invariant-loop-id : goal.invariant-loop-id
invariant-loop-id g l =
    (map id_digits l.ids.items ≡ map id_digits l.fn.ids.items ++ matches l.prefix.digits (map g.I.Id.digits (take l.id-index l.list)))
    × (All (λ id. id_kind id ≡ l.fn.kind) l.fn.ids.items → All (λ id. id_kind id ≡ l.fn.kind) l.ids.items)
