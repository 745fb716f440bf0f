use Rattle.gix_hash.proofs.Std.{All, List, ap, arith, map, map-map, string_bytes, subst, sym, take_all, ◌∙◌, ℕ}
use Rattle.directory_store.specs.Loose.{ListsIfThere, fan_out_in, listed_in}
use Rattle.directory_store.specs.declared.loose.FanOut.{FanOut}
use Rattle.directory_store.proofs.loose.Places.names_if_unchanged.Goals as goal

pub list-requires : goal.list-requires
list-requires g c = λ at known.
    let all = subst (All (ListsIfThere at)) (sym c.deref-fan_out-items.ensures.value) (c.in_ok-fan_outs.ensures.missing at known) in
    subst (ListsIfThere at) (sym c.fan_out-item.is) (all c.loop-fan_out.fan_out-index c.fan_out-item.result (omega arith))

pub returns-clause-names : goal.returns-clause-names
returns-clause-names g c = λ at known.
    let listed : List ℕ → List ℕ = λ path. listed_in path at in
    let path_of : FanOut → List ℕ = λ fan_out. string_bytes fan_out.path in
    let same = take_all c.loop-fan_out.fan_out-index c.deref-fan_out-items.result.now (omega arith) ∙ c.deref-fan_out-items.ensures.value in
    c.loop-fan_out.invariant.names at known ∙ ap (map (λ (fan_out : FanOut). listed (path_of fan_out))) same
    ∙ sym (map-map listed path_of c.in_ok-fan_outs.fan_outs.items) ∙ ap (map listed) c.in_ok-fan_outs.ensures.paths ∙ map-map listed (fan_out_in c.args.byte) c.args.self.now.paths.now
