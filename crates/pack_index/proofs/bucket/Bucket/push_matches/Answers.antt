use Rattle.gix_hash.proofs.Std.{◌∙◌, ap, sym, arith}
use Rattle.id_lookup.specs.Words.{Sha1, Sha256, hex_len_of}
use Rattle.pack_index.specs.Lazy.{BucketIds}
use Rattle.pack_index.proofs.Counted.{chunks-reach}
use Rattle.pack_index.proofs.bucket.Bucket.push_matches.Goals as goal

pub push_found-requires-clause-enough_digits : goal.push_found-requires-clause-enough_digits
push_found-requires-clause-enough_digits g c =
    let reach = chunks-reach Sha1 c.deref.result.now c.as_chunks.result.0.now c.as_chunks.ensures.front in
    let kind = ap hex_len_of (sym (ap (λ (b : BucketIds). b.kind) c.self.view_is) ∙ c.in-Sha1.is) in
    omega (arith, reach, kind, c.requires)

pub push_found-requires-in-Sha256-clause-enough_digits : goal.push_found-requires-in-Sha256-clause-enough_digits
push_found-requires-in-Sha256-clause-enough_digits g c =
    let reach = chunks-reach Sha256 c.deref-in-Sha256.result.now c.as_chunks-in-Sha256.result.0.now c.as_chunks-in-Sha256.ensures.front in
    let kind = ap hex_len_of (sym (ap (λ (b : BucketIds). b.kind) c.self.view_is) ∙ c.in-Sha256.is) in
    omega (arith, reach, kind, c.requires)
