use Rattle.gix_hash.proofs.Std.{List, ap, arith, get_or-map, map, rules, subst, sym, take, take_all, vec_len, ◌<◌, ◌++◌, ◌∙◌, ◌∷◌, [], ℕ}
use Rattle.std.specs.Global.{Global}
use Rattle.std.specs.Prelude.{Vec}
use Rattle.std.proofs.lemmas.List.{map_more}
use Rattle.gix_hash.specs.Words.{id_digits}
use Rattle.directory_store.specs.Loose.{AreLooseIn, HasNamesAt}
use Rattle.directory_store.specs.declared.loose.FanOutNames.{FanOutNames}
use Rattle.directory_store.proofs.LooseNames.{no_part, one_part}
use Rattle.directory_store.proofs.loose.directory_of.Goals as goal

pub loop-part-init : goal.loop-part-init
loop-part-init g c = record {
  kinds = search rules;
  loose = λ at all. no_part at c.args.path.now c.args.kind _ c.new-ids.ensures.items;
}

pub loop-part-preserved : goal.loop-part-preserved
loop-part-preserved g c =
    let parts = c.args.parts.now in
    let at_part = c.loop-part.part-index in
    let part = c.part-item.result in
    let byte_of : FanOutNames → ℕ = λ part. part.byte in
    record {
      kinds = c.in_ok-push_ids.ensures.kinds c.loop-part.invariant.kinds;
      loose = λ at all.
          let items : Vec ℕ Global → List ℕ = λ names. names.items in
          let here = subst (HasNamesAt at c.args.index c.args.path.now) (sym c.part-item.is) (all at_part part (omega arith)) in
          let bound = subst (λ (p : FanOutNames). c.args.index < vec_len p.names) (sym c.part-item.is) (c.requires at_part part (omega arith)) in
          let names = c.deref.ensures.value ∙ ap items c.index.ensures ∙ sym (get_or-map items part.names.items c.args.index c.index.result.now [] (omega (arith, part.names.ok.0, bound))) ∙ here in
          let more = map_more byte_of parts at_part part (omega arith) ∙ ap (λ (p : FanOutNames). map byte_of (take at_part parts) ++ p.byte ∷ []) (sym c.part-item.is) in
          subst (λ (bytes : List ℕ). AreLooseIn at c.args.kind bytes c.args.path.now (map id_digits c.push_ids.new.ids.items)) (sym more)
          (one_part at c.args.path.now c.args.kind (map byte_of (take at_part parts)) part.byte _ c.loop-part.ids.items c.push_ids.new.ids.items names c.in_ok-push_ids.ensures.ids (c.loop-part.invariant.loose at all));
    }

pub returns-clause-loose : goal.returns-clause-loose
returns-clause-loose g c = λ at all digits.
    let byte_of : FanOutNames → ℕ = λ part. part.byte in
    let same = c.new-table.ensures.index.members digits in
    let listed = subst (λ (parts : List FanOutNames). AreLooseIn at c.args.kind (map byte_of parts) c.args.path.now (map id_digits c.loop-part.ids.items)) (take_all c.loop-part.part-index c.args.parts.now (omega arith))
    (c.loop-part.invariant.loose at all) digits in
    (λ has. listed.0 (same.0 has), λ is. same.1 (listed.1 is))
