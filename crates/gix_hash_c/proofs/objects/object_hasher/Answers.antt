use Rattle.gix_hash.proofs.Std.{◌≡◌, [], ◌∷◌, ◌++◌, refl, append_assoc}
use Rattle.gix_hash_c.specs.Hashers.{object_header}
use Rattle.gix_hash_c.proofs.Feeding.{fed_more}
use Rattle.gix_hash_c.proofs.objects.object_hasher.Goals as goal

pub returns : goal.returns
returns c =
    let kind = c.args.kind in let name = c.args.name.now in
    let named = fed_more kind [] name _ _ _ c.new_hasher-hasher.ensures c.gix_hash_hasher_update.ensures in
    let spaced = fed_more kind _ _ _ _ _ named c.gix_hash_hasher_update-2.ensures in
    let counted = fed_more kind _ _ _ _ _ spaced c.gix_hash_hasher_update-3.ensures in
    let message : ((name ++ (32 ∷ [])) ++ c.as_bytes.result.now) ++ (0 ∷ []) ≡ object_header name c.args.len =
    rw (c.as_bytes.ensures.value, c.format.ensures.text) (simp (append_assoc) refl) in
    rw message at (fed_more kind _ _ _ _ _ counted c.gix_hash_hasher_update-4.ensures)
