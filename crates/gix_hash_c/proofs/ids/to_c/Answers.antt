use Rattle.gix_hash.proofs.Std.{◌≡◌, ◌∙◌, append-nil, length, refl, replicate, sym, ap}
use Rattle.id_digits.proofs.Packing.{padded-bytes}
use Rattle.id_lookup.specs.Words.{ObjectId, byte_len_of, digits_of, id_bytes, id_kind}
use Rattle.gix_hash_c.proofs.ids.to_c.Goals as goal

pub returns-in-Sha1 : goal.returns-in-Sha1
returns-in-Sha1 c =
    let len : length c.in-Sha1.digest ≡ 20 = ap (λ (id : ObjectId). length (id_bytes id)) (sym c.in-Sha1.is) ∙ sym (ap length c.as_slice-bytes.ensures.value) ∙ c.as_slice-bytes.ensures.len ∙ ap (λ (id : ObjectId). byte_len_of (id_kind id)) c.in-Sha1.is in
    rw (c.in-Sha1.is, c.copy_from_slice.ensures.after) record { kind = refl; bytes = sym (padded-bytes 20 32 c.in-Sha1.digest (replicate 32 0) len refl) }

pub returns-in-Sha256 : goal.returns-in-Sha256
returns-in-Sha256 c =
    let len : length c.in-Sha256.bytes ≡ 32 = ap (λ (id : ObjectId). length (id_bytes id)) (sym c.in-Sha256.is) ∙ sym (ap length c.as_slice-bytes.ensures.value) ∙ c.as_slice-bytes.ensures.len ∙ ap (λ (id : ObjectId). byte_len_of (id_kind id)) c.in-Sha256.is in
    rw c.in-Sha256.is record {
      kind = refl;
      bytes = ap digits_of (sym (append-nil c.in-Sha256.bytes)) ∙ sym (padded-bytes 32 32 c.in-Sha256.bytes (replicate 32 0) len refl);
    }
