-- How a text is lent out of the buffer that it was spelled into, for every id that `hex_to_buf` spells. By hand, since the borrow checker follows a loan only out of a function's first parameter. The buffer is with_digits, shared for all the time that it was lent for, and its name then ends at what it holds. Assumes `Logic`.
--     lending          the code of `front_text(self, with_digits(self, buffer))`
--     Fills, Fronts    what it needs of the two functions that it calls
--     lends            it runs to `post`, if the tokens, what is owned at the end and the `ensures` give `post`
use Rattle.id_digits.proofs.Std.{◌≡◌, ℕ, ◌≤◌, List, ◌++◌, Bor, MutBor, ap, w8, IsAscii}
use Rattle.gix_hash.specs.Loans.{IsLeftAs}
use Rattle.gix_hash.proofs.BufferEnds.{ends}
pub use mir.Syntax.{Ty, Lifetime, Callee, Fn, named, erased, imm, mut, ty_ref, ty_int, local, value_local, place, field, deref, copy, addr_of, aggregate, assign, call, seq, return}
use mir.Val.{Val, vptr}
use seplogic.Ra.Ura.{Ura}
pub use base.Fml.{Fml, Lft, Share, ftrue, flft, fsep}
pub use base.Logic.{SProp, ent, ex, sep, id⊢, emp}
use contract.Monad.{fact, fact_i}
use contract.Running.{Running, MachineTables, tables}
use prog.Model.{Model}
use prog.Wp.{WpFn}
pub use types.Logic.{Logic, sem}
use types.Kit.{‵, raw, ◌⊛◌, some, later, ◌$◌, ◌∵◌, !, qed, by, move, drop as let_go, use0, use1, use2, split, join, fsplit, fjoin, feq_i, feq_l, pick, await, rewrite}
use types.Part.{whole, sub, agg}
use types.Run.{enter, addr, from, fld, hop, stop, no_more, and_then, returns}
use types.ByLocal.{alloc_all, pass_all, free_all, look_at, look_in_at, get, get_in, sets, lands_as}
pub use denote.Builtin.{u8}
use denote.Laws.{Is, shows}
use denote.Plain.{uint_row_laws}
pub use denote.Slice.{MutSlice, ShrSlice, Room, finally, slice_ty, slice_val, mut_slice_vals, mut_slice_Tells, shr_slice_vals}
use denote.Steps.{nothing, heard, peeks, only}
use denote.Text.{Str}
use denote.Triple.Call.{calls_at}
use denote.Triple.Statement.{Contract, Triple}
use denote.Triple.Table.{framed}
use borrow.Rule.Slice.Handed.{sl_Share}
use borrow.Table.Copies.{c_rf, Shares-copy}
use borrow.Table.Owned as own
use borrow.Table.Referent.{f_int}
-- what the proofs of `hex_to_buf` cite besides
pub use Rattle.std.proofs.Common.{[], ◌∷◌, length, drop, refl}
pub use Rattle.std.proofs.raw_atomic.Walks.{proved, leaves}
pub use Rattle.id_digits.specs.Digits.{spelling, hex_letter}
pub use denote.Exit.{yes, no}
pub use denote.Ref.{ShrRef, shr_vals, shr_Tells, shr_copy}
pub use denote.Signature.{plain, mut_slice_of, shr_ref_to}
pub use denote.Triple.Entry.{alive}
pub use denote.Triple.Clauses.{lasts}
pub use denote.Triple.Walked.{Stays, walk_of, stay_dropped, Goes-dropped, Goes-spent_slice}

-- with the lifetimes of the signature and their bounds, what `self` refers to, the buffer's lifetime, and the two functions
abbrev pub lending : ℕ → List (ℕ × ℕ) → Ty → Lifetime → Callee → Callee → Fn
lending n outlives id ℓ with_digits front_text =
    let slot = λ (t : Ty). local t value_local in let byte = ty_int w8 in
    let mut_bytes = slice_ty (ty_ref erased mut byte) in
    record {
      lifetimes = n;
      outlives = outlives;
      ty_params = [];
      givens = 0;
      params = 2;
      locals = slot (slice_ty (ty_ref ℓ imm byte)) ∷ slot (ty_ref (named 0) imm id) ∷ slot (slice_ty (ty_ref ℓ mut byte)) ∷ slot mut_bytes
          ∷ slot (ty_ref erased mut byte) ∷ slot mut_bytes ∷ slot (ty_ref erased imm byte) ∷ slot (slice_ty (ty_ref erased imm byte)) ∷ [];
      body = seq (assign (place 4 []) (addr_of (place 2 (field 0 ∷ deref byte ∷ []))))
          (seq (assign (place 5 []) (aggregate (copy (place 4 []) ∷ copy (place 2 (field 1 ∷ [])) ∷ [])))
          (seq (call with_digits (copy (place 1 []) ∷ copy (place 5 []) ∷ []) (place 3 []))
          (seq (assign (place 6 []) (addr_of (place 3 (field 0 ∷ deref byte ∷ []))))
          (seq (assign (place 7 []) (aggregate (copy (place 6 []) ∷ copy (place 3 (field 1 ∷ [])) ∷ [])))
          (seq (call front_text (copy (place 1 []) ∷ copy (place 7 []) ∷ []) (place 0 [])) return)))));
    }

module _ {M : Type 1} {𝓤 : Ura M} (𝓛 : Logic 𝓤) (𝓜 : Model 𝓤 𝓛.H) (𝓡 : Running 𝓤 𝓛.H 𝓜) where
  abbrev 𝓣 : MachineTables 𝓤 𝓛.H 𝓜
  𝓣 = tables 𝓤 𝓛.H 𝓜 𝓡 𝓡.env

  -- the buffer's lifetime, and the tokens; the id, and what is owned of it; the buffer, the text, its length and the bytes after it
  module _ (ℓ : Lifetime) (κ : Lft) (q : Share) (toks : SProp 𝓤) {D : Type 0} (id : Bor D) (me : Fml)
      (b : MutBor (List ℕ)) (text : List ℕ) (len : ℕ) (after : List ℕ) where
    abbrev Entry : Fml → Type 0 → SProp 𝓤
    Entry buffer asked = sep 𝓤 (sep 𝓤 toks (sem 𝓛 (fsep me (fsep buffer ftrue)))) (fact 𝓤 asked)

    abbrev pub Fills : {L : Type 0} → (L → Fml) → Contract 𝓤
    Fills said = record {
      Ghost = Unit {0};
      args = λ _. vptr id.ref_ptr.0 id.ref_ptr.1 ∷ mut_slice_vals b;
      pre = λ _. Entry ((MutSlice ℓ κ u8).own_val b (mut_slice_vals b)) (len ≤ length b.now);
      post = λ _ v. 𝓛.H.⇛ (ex 𝓤 (λ (r : MutBor (List ℕ)). sep 𝓤 (sep 𝓤 toks (sem 𝓛 ((MutSlice ℓ κ u8).own_val r (v ∷ []))))
          (ex 𝓤 (λ ws. sep 𝓤 (sem 𝓛 (said ws)) (sep 𝓤 (fact 𝓤 (r.ghost_name ≡ b.ghost_name)) (fact 𝓤 (r.now ≡ text ++ after)))))));
    }

    abbrev pub Fronts : Bor (List ℕ) → {L : Type 0} → (L → Fml) → Contract 𝓤
    Fronts x said = record {
      Ghost = Unit {0};
      args = λ _. vptr id.ref_ptr.0 id.ref_ptr.1 ∷ shr_slice_vals x;
      pre = λ _. Entry ((ShrSlice ℓ κ u8).own_val x (shr_slice_vals x)) ((rest : List ℕ) × (x.now ≡ text ++ rest));
      post = λ _ v. 𝓛.H.⇛ (ex 𝓤 (λ (t : Bor (List ℕ)). sep 𝓤 (sep 𝓤 toks (sem 𝓛 ((Str ℓ κ).own_val t (v ∷ []))))
          (ex 𝓤 (λ ws. sep 𝓤 (sem 𝓛 (said ws)) (sep 𝓤 (fact 𝓤 (t.now ≡ text)) (sep 𝓤 (fact 𝓤 (IsAscii t.now)) (fact 𝓤 (length t.now ≡ len))))))));
    }

    -- what is had at the return of the text t
    abbrev Ended : Bor (List ℕ) → SProp 𝓤
    Ended t = sep 𝓤 toks (sep 𝓤 (sem 𝓛 (fsep ftrue (fsep ftrue ftrue))) (sep 𝓤 (sem 𝓛 ((Str ℓ κ).own_val t (shr_slice_vals t)))
        (sep 𝓤 (sem 𝓛 (IsLeftAs b (text ++ after))) (sep 𝓤 (fact 𝓤 (t.now ≡ text)) (sep 𝓤 (fact 𝓤 (IsAscii t.now)) (fact 𝓤 (length t.now ≡ len)))))))

    pub lends : (n : ℕ) (outlives : List (ℕ × ℕ)) (referent : Ty) (with_digits front_text : Callee) {L : Type 0} (said : L → Fml) {L' : Bor (List ℕ) → Type 0} (said' : (x : Bor (List ℕ)) → L' x → Fml)
        → (others : SProp 𝓤) → ent 𝓤 toks (sep 𝓤 others (sem 𝓛 (fsep (flft κ q) ftrue))) → ent 𝓤 (sep 𝓤 others (sem 𝓛 (fsep (flft κ q) ftrue))) toks
        → ent 𝓤 (sem 𝓛 me) (sep 𝓤 (sem 𝓛 me) (sem 𝓛 me)) → Room u8 (length b.now)
        → Triple 𝓤 (𝓣.C with_digits) (Fills said) → ((x : Bor (List ℕ)) → Triple 𝓤 (𝓣.C front_text) (Fronts x (said' x)))
        → (post : Val → SProp 𝓤) → ((t : Bor (List ℕ)) → ent 𝓤 (Ended t) (post (slice_val t.ref_ptr (length t.now))))
        → ent 𝓤 (Entry ((MutSlice ℓ κ u8).own_val b (mut_slice_vals b)) (len ≤ length b.now))
        (WpFn 𝓤 𝓛.H 𝓣.C 𝓣.Λ (lending n outlives referent ℓ with_digits front_text) (vptr id.ref_ptr.0 id.ref_ptr.1 ∷ mut_slice_vals b) post)
    lends n outlives referent with_digits front_text {L = L} said {L' = L'} said' others out back copied fits fills fronts post ended =
        let fm = framed 𝓤 𝓛.H 𝓜 𝓣 in let Room = len ≤ length b.now in
        qed 𝓛 ((raw toks ⊛ ‵ me ⊛ ‵ ((MutSlice ℓ κ u8).own_val b (mut_slice_vals b)) ⊛ ‵ ftrue) ∷ raw (fact 𝓤 Room) ∷ []) ∵
        move ! (1 ∷ []) $ heard ! Room (λ room. split ! $ move ! (1 ∷ []) $ split ! $ use1 𝓛 (‵ me ⊛ ‵ me) copied $ split ! $
        -- [me; me; the buffer; the tokens]
        move ! (0 ∷ 2 ∷ 3 ∷ []) $ join ! $ move ! (1 ∷ 0 ∷ []) $ join ! $ use0 𝓛 (raw (fact 𝓤 Room)) (fact_i 𝓤 Room (emp 𝓤) room) $ move ! (1 ∷ 0 ∷ []) $ join ! $
        use1 𝓛 (raw ((Fills said).pre tt)) (id⊢ 𝓤 _) $
        enter ! _ _ _ _ _ $ alloc_all ! (λ l. pass_all ! refl ((tt, tt), ((tt, (tt, (record { fits = fits.0 }, tt))), tt)) $
        sets ! (addr ! (from ! (fld ! refl (hop ! (look_in_at ! 2 (sub ! 0 refl (whole !))) (stop !))))) refl (tt, tt) $
        sets ! (agg ! (and_then ! (get ! refl) (and_then ! (get_in ! (fld ! refl (stop !)) (sub ! 1 refl (whole !))) (no_more !)))) refl (tt, (tt, (record { fits = fits.0 }, tt))) $
        calls_at ! fm (Fills said) fills tt (and_then ! (get ! refl) (and_then ! (get ! refl) (no_more !))) (λ v.
        use1 𝓛 (later (some (λ (r : MutBor (List ℕ)). (raw toks ⊛ ‵ ((MutSlice ℓ κ u8).own_val r (v ∷ []))) ⊛
        some (λ (ws : L). ‵ (said ws) ⊛ raw (fact 𝓤 (r.ghost_name ≡ b.ghost_name)) ⊛ raw (fact 𝓤 (r.now ≡ text ++ after)))))) (id⊢ 𝓤 _) $
        await ! tt $ pick ! (λ r. split ! $ split ! $ move ! (2 ∷ []) $ pick ! (λ ws. split ! $ let_go ! $ split ! $ heard ! (r.ghost_name ≡ b.ghost_name) (λ same. heard ! (r.now ≡ text ++ after) (λ value.
        -- [the tokens; the with_digits buffer; me]
        move ! (1 ∷ []) $ peeks ! (MutSlice ℓ κ u8) (Is (MutSlice ℓ κ u8)) (shows 𝓛 (MutSlice ℓ κ u8)) r (v ∷ []) (λ filled_at.
        lands_as ! (ap only filled_at.0.0) refl (tt, (tt, (record { fits = filled_at.0.1.0 }, tt))) $
        sets ! (addr ! (from ! (fld ! refl (hop ! (look_in_at ! 3 (sub ! 0 refl (whole !))) (stop !))))) refl (tt, tt) $
        sets ! (agg ! (and_then ! (get ! refl) (and_then ! (get_in ! (fld ! refl (stop !)) (sub ! 1 refl (whole !))) (no_more !)))) refl (tt, (tt, (record { fits = filled_at.0.1.0 }, tt))) $
        fsplit ! $ fsplit ! $ feq_l ! (λ _. fjoin ! $
        -- [what the buffer owns; the tokens; me]
        move ! (1 ∷ []) $ use1 𝓛 (raw others ⊛ ‵ (fsep (flft κ q) ftrue)) out $ split ! $ move ! (1 ∷ []) $ fsplit ! $ move ! (1 ∷ []) $ let_go ! $ move ! (2 ∷ 0 ∷ []) $
        use2 𝓛 (later (‵ ((own.ShrSlice erased κ u8).own_val (record { ref_ptr = r.ref_ptr; now = r.now })) ⊛ (‵ (finally u8 r.ghost_name r.now) ⊛ ‵ (flft κ q))))
        (sl_Share 𝓛 u8 r.ref_ptr.0 r.ref_ptr.1 r.ghost_name r.now (uint_row_laws w8) κ q (Shares-copy 𝓛 (c_rf (f_int w8)) κ)) $ await ! tt $ split ! $ move ! (1 ∷ []) $ split ! $
        use1 𝓛 (‵ (IsLeftAs b (text ++ after))) (ends 𝓛 r b (text ++ after) same value) $
        -- [how the buffer ends; the buffer's token; what the shared buffer owns; the other tokens; me]
        let x : Bor (List ℕ) = record { ref_ptr = r.ref_ptr; now = r.now } in
        let Front = (rest : List ℕ) × (r.now ≡ text ++ rest) in
        move ! (2 ∷ []) $ fsplit ! $ feq_i ! (List Val) (shr_slice_vals x) (shr_slice_vals x) refl $ fjoin ! $ fjoin ! $ nothing ! $ move ! (1 ∷ 0 ∷ []) $ join ! $ move ! (4 ∷ 0 ∷ []) $ join ! $
        nothing ! $ move ! (3 ∷ 0 ∷ []) $ fjoin ! $ move ! (3 ∷ 0 ∷ []) $ use2 𝓛 (raw toks) back $ join ! $
        use0 𝓛 (raw (fact 𝓤 Front)) (fact_i 𝓤 Front (emp 𝓤) (after, value)) $ move ! (1 ∷ 0 ∷ []) $ join ! $
        use1 𝓛 (raw ((Fronts x (said' x)).pre tt)) (id⊢ 𝓤 _) $
        calls_at ! fm (Fronts x (said' x)) (fronts x) tt (and_then ! (get ! refl) (and_then ! (get ! refl) (no_more !))) (λ v'.
        use1 𝓛 (later (some (λ (t : Bor (List ℕ)). (raw toks ⊛ ‵ ((Str ℓ κ).own_val t (v' ∷ []))) ⊛
        some (λ (ws' : L' x). ‵ (said' x ws') ⊛ raw (fact 𝓤 (t.now ≡ text)) ⊛ raw (fact 𝓤 (IsAscii t.now)) ⊛ raw (fact 𝓤 (length t.now ≡ len)))))) (id⊢ 𝓤 _) $
        await ! tt $ pick ! (λ t. split ! $ split ! $ move ! (2 ∷ []) $ pick ! (λ ws'. split ! $ let_go ! $
        split ! $ heard ! (t.now ≡ text) (λ spelt. split ! $ heard ! (IsAscii t.now) (λ ascii. heard ! (length t.now ≡ len) (λ long.
        -- [the tokens; the text; how the buffer ends]
        move ! (1 ∷ []) $ peeks ! (Str ℓ κ) (Is (Str ℓ κ)) (shows 𝓛 (Str ℓ κ)) t (v' ∷ []) (λ shown.
        lands_as ! (ap only shown.0.0.0) refl (tt, (tt, (record { fits = shown.0.0.1.0 }, tt))) $
        rewrite ! 0 (λ (vs : List Val). ‵ ((Str ℓ κ).own_val t vs)) shown.0.0.0 refl $
        returns ! (look_at ! 0 refl) $ free_all ! refl $
        use0 𝓛 (raw (fact 𝓤 (length t.now ≡ len))) (fact_i 𝓤 (length t.now ≡ len) (emp 𝓤) long) $ use0 𝓛 (raw (fact 𝓤 (IsAscii t.now))) (fact_i 𝓤 (IsAscii t.now) (emp 𝓤) ascii) $ join ! $
        use0 𝓛 (raw (fact 𝓤 (t.now ≡ text))) (fact_i 𝓤 (t.now ≡ text) (emp 𝓤) spelt) $ join ! $ move ! (3 ∷ 0 ∷ []) $ join ! $
        -- [the `ensures`; the text; the tokens]
        nothing ! $ nothing ! $ fjoin ! $ nothing ! $ fjoin ! $ move ! (3 ∷ 0 ∷ 2 ∷ 1 ∷ []) $
        by ! (ended t)
        ))))))))))))))))
