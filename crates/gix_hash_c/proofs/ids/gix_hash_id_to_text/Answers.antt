use Rattle.gix_hash.proofs.Std.{◌≡◌, ◌<◌, ◌++◌, ◌∷◌, ℕ, List, suc, drop, length, get_or, inr, refl, ap, ◌∙◌, arith, drop-cons, set_at}
use Rattle.id_lookup.specs.Words.{hex_len_of, hex_letter, oid_digits, oid_kind, spelling}
use Rattle.id_digits.proofs.Spellings.{length-spelling}
use Rattle.gix_hash_c.proofs.ids.gix_hash_id_to_text.Goals as goal

pub returns : goal.returns
returns c =
    let old = c.args.text.now in let n = hex_len_of (oid_kind c.in-Some.id) in let digits = oid_digits c.in-Some.id in
    let front = spelling hex_letter digits in
    let at : c.len_in_hex-len.result ≡ n = c.len_in_hex-len.ensures ∙ ap hex_len_of c.kind.ensures.value in
    let room : n < length old = omega (arith, c.if-text-len.false, at) in
    let len : length front ≡ n = length-spelling hex_letter digits ∙ c.put_hex.ensures.len in
    let written : c.put_hex.new.buffer ≡ front ++ get_or old n 0 ∷ drop (suc n) old =
    c.put_hex.ensures.value ∙ ap (λ (rest : List ℕ). front ++ rest) (drop-cons old n 0 room) in
    rw (c.in-Some.ensures, written, at)
    (inr (refl, room, set_at front (get_or old n 0) (drop (suc n) old) 0 n len))
