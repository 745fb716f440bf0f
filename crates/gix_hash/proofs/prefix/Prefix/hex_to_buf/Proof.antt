-- By hand, as `LentTexts` shows it of every id. Assumes `Logic`.
use Rattle.gix_hash.proofs.LentTexts.{[], ◌∷◌, length, drop, refl, spelling, hex_letter, proved, leaves, lends, named, flft, id⊢, sem, u8, yes, no, ShrRef, shr_vals, shr_Tells, shr_copy, plain, mut_slice_of, shr_ref_to, slice_val, mut_slice_vals, mut_slice_Tells, shr_slice_vals, alive, lasts, Stays, walk_of, stay_dropped, Goes-dropped, Goes-spent_slice}
use Rattle.gix_hash.specs.contracts.prefix.Prefix as id_type
use Rattle.gix_hash.proofs.prefix.Prefix.TheLaws as id_laws
use Rattle.gix_hash.specs.contracts.prefix.Prefix.hex_to_buf as f
use Rattle.gix_hash.specs.contracts.prefix.Prefix.with_digits as fill
use Rattle.gix_hash.specs.contracts.prefix.Prefix.front_text as front
use Rattle.gix_hash.proofs.prefix.Prefix.with_digits.Met as with_digits
use Rattle.gix_hash.proofs.prefix.Prefix.front_text.Met as front_text
use Rattle.gix_hash.proofs.prefix.Prefix.hex_to_buf.Statement.{statement}
use Rattle.gix_hash.proofs.prefix.Prefix.hex_to_buf.Code as code

abbrev stayed : Stays f.ended.signature.params f.ended.kept
stayed = (stay_dropped _ yes, (stay_dropped (mut_slice_of (1 ∷ []) tt (plain (λ _. u8))) no, tt))

pub hex_to_buf_spec : {M : Type 1} → statement M
hex_to_buf_spec 𝓤 𝓛 𝓜 𝓡 wired =
    let c = f.clauses 𝓛 𝓜.mem 𝓡.returns in let W = walk_of 𝓛 f.ended stayed c in
    proved 𝓛 f.ended stayed c 𝓜 𝓡 (Goes-dropped 𝓛 2 (shr_ref_to (0 ∷ []) tt (plain (λ _. id_type.the_row))) yes (λ κs x w. refl), (Goes-spent_slice 𝓛 2 (1 ∷ []) tt (plain (λ _. u8)), tt))
    f.Key.name code.function (code.unfolded 𝓤 𝓛.H 𝓜 𝓡 wired)
    (λ κs. (shr_vals, (mut_slice_vals, tt)))
    (λ κs. (shr_Tells (named 0) κs.0 id_type.the_row, (mut_slice_Tells (named 1) κs.1.0 u8, tt))) (λ κs qs bounds a _ are.
    let id = a.0 in let b = a.1.0 in let count = length id.now.digits in
    let y : W.Ghost = ((κs, qs, bounds, a, (shr_vals id, (mut_slice_vals b, tt))), tt) in
    lends 𝓛 𝓜 𝓡 (named 1) κs.1.0 qs.1.0 (alive 𝓛 f.signature κs qs) id ((ShrRef (named 0) κs.0 id_type.the_row).own_val id (shr_vals id))
    b (spelling hex_letter id.now.digits) count (drop count b.now)
    _ _ _ _ _ (lasts fill.ended κs a) (λ x. lasts front.ended κs (id, (x, tt)))
    (sem 𝓛 (flft κs.0 qs.0)) (id⊢ 𝓤 _) (id⊢ 𝓤 _)
    ((shr_copy 𝓛 (named 0) κs.0 id_type.the_row id_laws.the_row_laws.shr_laws).twice id (shr_vals id)) are.1.0.0.1
    (λ _. with_digits.met 𝓤 𝓛 𝓜 𝓡 (code.calls-gix_hash::prefix::Prefix::with_digits 𝓡.env wired) y)
    (λ x u. front_text.met 𝓤 𝓛 𝓜 𝓡 (code.calls-gix_hash::prefix::Prefix::front_text 𝓡.env wired) ((κs, qs, bounds, (id, (x, tt)), (shr_vals id, (shr_slice_vals x, tt))), tt))
    (W.post y) (λ t. leaves 𝓛 f.ended stayed c y (slice_val t.ref_ptr (length t.now)) t (tt, (tt, tt)) (tt, (tt, tt))))
