use Rattle.gix_hash.proofs.Std.{◌≡◌, take, All, AllZip}
use Rattle.id_lookup.specs.Words.{first_byte_of}
use Rattle.std.specs.Option.{ForSome}
use Rattle.pack_index.specs.Lazy.{HasBucket, IndexView}
use Rattle.object_store.proofs.PartIds.{IsPart}
use Rattle.object_store.proofs.parts.read_parts.Given as goal

abbrev pub invariant-loop-at : goal.invariant-loop-at
invariant-loop-at g l =
    let view = g.S.Store.view l.fn.store in
    (l.store ≡ l.fn.store) × AllZip (IsPart l.prefix.digits) (take l.at view.packs) l.buckets.items
    × All (λ (pack : IndexView). ForSome pack.tables (λ tables. HasBucket tables (first_byte_of l.prefix.digits))) (take l.at view.packs)
