-- What lies at the fields is read as a state: the cell of one is a cell of the other, since structs with the same fields lie alike.
use Rattle.gix_hash_c.proofs.Recast.{[], ◌∷◌, refl, Ty, proved, ftrue, fat, full_share, unnamed, tables, ‵, ◌⊛◌, at_ret, ◌$◌, ◌∵◌, !, qed, done, move, keep, use1, split, join, suffices, enter, of_opd, addr, load, look, stop, from, first, blocks, exec, returns, alloc_all, pass_all, free_all, look_at, get, through, sets, sets_last, take_at, give_at, env, yes, plain, nothing, Stays, walk_of, says, stay_dropped, Goes-dropped, ends_at}
use Rattle.gix_hash_c.specs.Hashers.{sha256_of}
use Rattle.gix_hash_c.specs.contracts.states.Sha256Fields.{the_row as In}
use Rattle.gix_hash_c.proofs.states.Sha256Fields.TheLaws as given
use Rattle.sha2.proofs.Sha256.TheLaws as made
use Rattle.gix_hash_c.specs.contracts.states.sha256_of as f
use Rattle.gix_hash_c.proofs.states.sha256_of.Statement.{statement}
use Rattle.gix_hash_c.proofs.states.sha256_of.Code as code

abbrev stayed : Stays f.ended.signature.params f.ended.kept
stayed = (stay_dropped _ yes, tt)

pub sha256_of_spec : {M : Type 1} → statement M
sha256_of_spec 𝓤 𝓛 𝓜 𝓡 wired =
    let c = f.clauses 𝓛 𝓜.mem 𝓡.returns in let W = walk_of 𝓛 f.ended stayed c in let 𝓣 = tables 𝓤 𝓛.H 𝓜 𝓡 𝓡.env in
    proved 𝓛 f.ended stayed c 𝓜 𝓡 (Goes-dropped 𝓛 0 (plain (λ _. In)) yes (λ κs x w. refl), tt)
    f.Key.name code.function (code.unfolded 𝓤 𝓛.H 𝓜 𝓡 wired)
    (λ κs. (λ d. given.lowered d ∷ [], tt)) (λ κs. (given.lowers.val_is, tt)) (λ κs qs bounds a _ are.
    let v = given.lowered a.0 in let y : W.Ghost = ((κs, qs, bounds, a, (v ∷ [], tt)), tt) in
    let good = ((given.the_row_laws.lawful 𝓛).typed a.0 (v ∷ []) are.0).0 in
    qed 𝓛 ((‵ ftrue ⊛ ‵ (In.own_val a.0 (v ∷ [])) ⊛ ‵ ftrue) ∷ ‵ ftrue ∷ []) ∵
    split ! $ move ! (1 ∷ []) $ split ! $ keep ! (0 ∷ []) $
    enter ! _ _ _ _ _ $ alloc_all ! (λ l. pass_all ! refl (good, tt) $
    let Cell = λ (τ : Ty). fat full_share τ (l 2) 0 v in
    sets ! (of_opd ! (get ! refl)) refl good $
    sets ! (addr ! (from ! (stop !))) refl (tt, tt) $
    -- local 2 is seen as a cell of the other struct while it is read
    take_at ! 2 $ use1 𝓛 (‵ (Cell (unnamed given.mir))) (𝓛.laws.at_raw full_share given.mir (l 2) 0 v) $
    use1 𝓛 (‵ (Cell made.mir)) (𝓛.laws.raw_at full_share made.mir (l 2) 0 v) $
    first ! $ blocks ! $
    sets_last ! (of_opd ! (load ! (through ! refl (stop !)) (look ! 0 refl))) refl good $
    use1 𝓛 (‵ (Cell (unnamed made.mir))) (𝓛.laws.at_raw full_share made.mir (l 2) 0 v) $
    use1 𝓛 (‵ (Cell given.mir)) (𝓛.laws.raw_at full_share given.mir (l 2) 0 v) $ give_at ! 2 $
    exec ! 𝓣.C 𝓣.Λ (env code.Mir.locals l) code.Mir.t-4 (at_ret _ (W.post y)) $
    sets ! (of_opd ! (get ! refl)) refl good $
    returns ! (look_at ! 0 refl) $ free_all ! refl $
    suffices ! _ (ends_at 𝓛 f.ended stayed c y v (sha256_of a.0) (tt, tt) (tt, tt)) $ says ! refl $
    nothing ! $ nothing ! $ join ! $ nothing ! $ done !))
