-- By hand, as `LentTexts` shows it of every id. Assumes `Logic`.
use Rattle.gix_hash.proofs.LentTexts.{[], ◌∷◌, length, drop, refl, spelling, hex_letter, proved, leaves, lends, named, flft, sem, u8, yes, no, ShrRef, shr_vals, shr_Tells, shr_copy, plain, mut_slice_of, shr_ref_to, slice_val, mut_slice_vals, mut_slice_Tells, shr_slice_vals, alive, lasts, Stays, walk_of, stay_dropped, Goes-dropped, Goes-spent_slice, ftrue, fsep, sep}
use base.Logic.{assoc∗, assoc'}
use denote.Signature.{named_lft}
use Rattle.gix_hash.specs.Kinds.{hex_len_of}
use Rattle.gix_hash.specs.Ids.{oid_digits, oid_kind}
use Rattle.gix_hash.specs.contracts.borrowed.oid as id_type
use Rattle.gix_hash.proofs.borrowed.oid.TheLaws as id_laws
use Rattle.gix_hash.specs.contracts.borrowed.oid.hex_to_buf as f
use Rattle.gix_hash.specs.contracts.borrowed.oid.with_digits as fill
use Rattle.gix_hash.specs.contracts.borrowed.oid.front_text as front
use Rattle.gix_hash.proofs.borrowed.oid.with_digits.Met as with_digits
use Rattle.gix_hash.proofs.borrowed.oid.front_text.Met as front_text
use Rattle.gix_hash.proofs.borrowed.oid.hex_to_buf.Statement.{statement}
use Rattle.gix_hash.proofs.borrowed.oid.hex_to_buf.Code as code

abbrev stayed : Stays f.ended.signature.params f.ended.kept
stayed = (stay_dropped _ yes, (stay_dropped (mut_slice_of (2 ∷ []) tt (plain (λ _. u8))) no, tt))

pub hex_to_buf_spec : {M : Type 1} → statement M
hex_to_buf_spec 𝓤 𝓛 𝓜 𝓡 wired =
    let c = f.clauses 𝓛 𝓜.mem 𝓡.returns in let W = walk_of 𝓛 f.ended stayed c in
    proved 𝓛 f.ended stayed c 𝓜 𝓡 (Goes-dropped 𝓛 3 (shr_ref_to (0 ∷ []) tt (plain (λ κs. id_type.the_row (named_lft 3 1 tt κs)))) yes (λ κs x w. refl), (Goes-spent_slice 𝓛 3 (2 ∷ []) tt (plain (λ _. u8)), tt))
    f.Key.name code.function (code.unfolded 𝓤 𝓛.H 𝓜 𝓡 wired)
    (λ κs. (shr_vals, (mut_slice_vals, tt)))
    (λ κs. (shr_Tells (named 0) κs.0 (id_type.the_row (named_lft 3 1 tt κs)), (mut_slice_Tells (named 2) κs.1.1.0 u8, tt))) (λ κs qs bounds a _ are.
    let κ' = named_lft 3 1 tt κs in let id = a.0 in let b = a.1.0 in let count = hex_len_of (oid_kind id.now) in
    let α = sem 𝓛 (flft κs.0 qs.0) in let β = sem 𝓛 (flft κs.1.0 qs.1.0) in let γ = sem 𝓛 (fsep (flft κs.1.1.0 qs.1.1.0) ftrue) in
    let y : W.Ghost = ((κs, qs, bounds, a, (shr_vals id, (mut_slice_vals b, tt))), tt) in
    lends 𝓛 𝓜 𝓡 (named 2) κs.1.1.0 qs.1.1.0 (alive 𝓛 f.signature κs qs) id ((ShrRef (named 0) κs.0 (id_type.the_row κ')).own_val id (shr_vals id))
    b (spelling hex_letter (oid_digits id.now)) count (drop count b.now)
    _ _ _ _ _ (lasts fill.ended κs a) (λ x. lasts front.ended κs (id, (x, tt)))
    (sep 𝓤 α β) (assoc' 𝓤 α β γ) (assoc∗ 𝓤 α β γ)
    ((shr_copy 𝓛 (named 0) κs.0 (id_type.the_row κ') (id_laws.the_row_laws κ').shr_laws).twice id (shr_vals id)) are.1.0.0.1
    (λ _. with_digits.met 𝓤 𝓛 𝓜 𝓡 (code.calls-gix_hash::borrowed::oid::with_digits 𝓡.env wired) y)
    (λ x u. front_text.met 𝓤 𝓛 𝓜 𝓡 (code.calls-gix_hash::borrowed::oid::front_text 𝓡.env wired) ((κs, qs, bounds, (id, (x, tt)), (shr_vals id, (shr_slice_vals x, tt))), tt))
    (W.post y) (λ t. leaves 𝓛 f.ended stayed c y (slice_val t.ref_ptr (length t.now)) t (tt, (tt, tt)) (tt, (tt, tt))))
