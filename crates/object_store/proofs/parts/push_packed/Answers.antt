use Rattle.gix_hash.proofs.Std.{◌≡◌, ◌≤◌, ◌∙◌, ◌++◌, List, ap, length, map, subst, sym, nat_eq, take_all, All, flat_map, starts_with}
use Rattle.id_lookup.specs.Words.{Kind, ObjectId, hex_len_of, id_digits, id_kind, matches}
use Rattle.object_store.proofs.PartIds.{bucket_more}
use Rattle.pack_index.specs.Lazy.{BucketIds}
use Rattle.object_store.proofs.parts.push_packed.Goals as goal

pub push_matches-requires : goal.push_matches-requires
push_matches-requires g c =
    let of_kind = ap (λ (b : BucketIds). b.kind) c.bucket-item.is ∙ c.requires.kinds c.loop-bucket.bucket-index c.bucket-item.result c.loop-bucket-test.true in
    subst (λ (k : Kind). length c.args.prefix.now.digits ≤ hex_len_of k) (sym of_kind) c.requires.fits

pub loop-bucket-preserved : goal.loop-bucket-preserved
loop-bucket-preserved g c =
    let bucket = c.bucket-item.result in
    let of_kind : bucket.kind ≡ c.args.kind =
    ap (λ (b : BucketIds). b.kind) c.bucket-item.is ∙ c.requires.kinds c.loop-bucket.bucket-index bucket c.loop-bucket-test.true in (
      bucket_more (λ id. starts_with nat_eq id c.args.prefix.now.digits) c.args.buckets.now c.loop-bucket.bucket-index bucket (map id_digits c.args.ids.now.items)
          (map id_digits c.loop-bucket.ids.items) (map id_digits c.push_matches.new.ids.items) c.loop-bucket-test.true c.bucket-item.is c.loop-bucket.invariant.0
          c.in_ok-push_matches.ensures.digits,
      subst (λ (k : Kind). All (λ (id : ObjectId). id_kind id ≡ k) c.args.ids.now.items → All (λ (id : ObjectId). id_kind id ≡ k) c.push_matches.new.ids.items) of_kind
          (λ kinds. c.in_ok-push_matches.ensures.kinds
          (subst (λ (k : Kind). All (λ (id : ObjectId). id_kind id ≡ k) c.loop-bucket.ids.items) (sym of_kind)
          (c.loop-bucket.invariant.1 (subst (λ (k : Kind). All (λ (id : ObjectId). id_kind id ≡ k) c.args.ids.now.items) of_kind kinds)))),
    )

pub returns-clause-digits : goal.returns-clause-digits
returns-clause-digits g c =
    c.loop-bucket.invariant.0
    ∙ ap (λ (bs : List BucketIds). map id_digits c.args.ids.now.items ++ flat_map (λ (b : BucketIds). matches c.args.prefix.now.digits b.ids) bs)
    (take_all c.loop-bucket.bucket-index c.args.buckets.now c.loop-bucket-test.false)
