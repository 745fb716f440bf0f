use Rattle.gix_hash.proofs.Std.{◌≡◌, ◌≤◌, ◌∙◌, length, sym, ap, subst, map}
use Rattle.id_lookup.specs.Words.{Sha1, Sha256, digits_of, hex_len_of, least_hex_len, oid_digits}
use Rattle.id_lookup.proofs.Indexes.{no_other}
use Rattle.pack_index.proofs.Counted.{chunks-long, chunks-reach, length-digests_in_at}
use Rattle.pack_index.proofs.Looked.{kinds_differ}
use Rattle.pack_index.proofs.bucket.Bucket.position.Goals as goal

pub returns-then-ne : goal.returns-then-ne
returns-then-ne g c =
    rw (← c.self.view_is) (λ k inside same.
    kinds_differ c.kind.result c.self.inside.kind (sym c.ne.ensures ∙ c.if-ne.true)
    (ap hex_len_of c.kind.ensures.value ∙ sym c.kind.ensures.len ∙ sym (ap length same) ∙ length-digests_in_at c.self.inside.kind c.self.inside.table.items k inside))

pub position_in-requires-clause-enough_digits : goal.position_in-requires-clause-enough_digits
position_in-requires-clause-enough_digits g c =
    let same = sym (no_other c.kind.result c.self.inside.kind (sym c.ne.ensures ∙ c.if-ne.false)) ∙ c.kind.ensures.value in
    let len : length (oid_digits c.args.id) ≡ hex_len_of Sha1 = c.kind.ensures.len ∙ ap hex_len_of (sym same ∙ c.in-Sha1.is) in
    subst (λ n. n ≤ least_hex_len (map digits_of c.as_chunks.result.0.now)) (sym len) (chunks-reach Sha1 c.deref.result.now c.as_chunks.result.0.now c.as_chunks.ensures.front)

pub position_in-requires-clause-long : goal.position_in-requires-clause-long
position_in-requires-clause-long g c = λ k low.
    let same = sym (no_other c.kind.result c.self.inside.kind (sym c.ne.ensures ∙ c.if-ne.false)) ∙ c.kind.ensures.value in
    chunks-long Sha1 c.deref.result.now c.as_chunks.result.0.now c.as_chunks.ensures.front k low ∙ sym (c.kind.ensures.len ∙ ap hex_len_of (sym same ∙ c.in-Sha1.is))

pub position_in-requires-in-Sha256-clause-enough_digits : goal.position_in-requires-in-Sha256-clause-enough_digits
position_in-requires-in-Sha256-clause-enough_digits g c =
    let same = sym (no_other c.kind.result c.self.inside.kind (sym c.ne.ensures ∙ c.if-ne.false)) ∙ c.kind.ensures.value in
    let len : length (oid_digits c.args.id) ≡ hex_len_of Sha256 = c.kind.ensures.len ∙ ap hex_len_of (sym same ∙ c.in-Sha256.is) in
    subst (λ n. n ≤ least_hex_len (map digits_of c.as_chunks-in-Sha256.result.0.now)) (sym len)
    (chunks-reach Sha256 c.deref-in-Sha256.result.now c.as_chunks-in-Sha256.result.0.now c.as_chunks-in-Sha256.ensures.front)

pub position_in-requires-in-Sha256-clause-long : goal.position_in-requires-in-Sha256-clause-long
position_in-requires-in-Sha256-clause-long g c = λ k low.
    let same = sym (no_other c.kind.result c.self.inside.kind (sym c.ne.ensures ∙ c.if-ne.false)) ∙ c.kind.ensures.value in
    chunks-long Sha256 c.deref-in-Sha256.result.now c.as_chunks-in-Sha256.result.0.now c.as_chunks-in-Sha256.ensures.front k low
    ∙ sym (c.kind.ensures.len ∙ ap hex_len_of (sym same ∙ c.in-Sha256.is))
