use Rattle.gix_hash.proofs.Std.{◌≡◌, ℕ, List, rules, subst, sym}
use Rattle.id_lookup.specs.Words.{oid_digits}
use Rattle.pack_index.specs.Lazy.{IsPartOf, LazyIndex, seen}
use Rattle.packtool_tests.proofs.pack_index_multi.position_of.Goals as goal

pub lookup-requires : goal.lookup-requires
lookup-requires c =
    let digits : c.from.result.digits ≡ oid_digits c.as_oid.result = search rules in
    subst (λ (file : LazyIndex). IsPartOf (seen file) (oid_digits c.as_oid.result) c.in_ok-bucket.bucket) (sym c.part.ensures.same)
    (subst (λ (ds : List ℕ). IsPartOf (seen c.args.index.now) ds c.in_ok-bucket.bucket) digits c.in_ok-bucket.ensures.part)
