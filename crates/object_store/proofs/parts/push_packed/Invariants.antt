use Rattle.gix_hash.proofs.Std.{◌≡◌, ◌++◌, map, take, All, flat_map}
use Rattle.id_lookup.specs.Words.{id_digits, id_kind, matches}
use Rattle.pack_index.specs.Lazy.{BucketIds}
use Rattle.object_store.proofs.parts.push_packed.Given as goal

abbrev pub invariant-loop-bucket : goal.invariant-loop-bucket
invariant-loop-bucket g l =
    (map id_digits l.ids.items ≡ map id_digits l.fn.ids.items ++ flat_map (λ (b : BucketIds). matches l.prefix.digits b.ids) (take l.bucket-index l.buckets))
    × (All (λ id. id_kind id ≡ l.fn.kind) l.fn.ids.items → All (λ id. id_kind id ≡ l.fn.kind) l.ids.items)
