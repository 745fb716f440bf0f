use Rattle.std.proofs.Common.{tests}
use Rattle.gix_hash.proofs.Std.{All, All-push, List, ℕ, ◌≡◌, ◌==◌, Some, append-nil, rules, subst, sym}
use Rattle.std.proofs.lemmas.Iterator.Consumers.{YieldsList-at, YieldsList-end}
use Rattle.std.proofs.lemmas.Iterator.Splits.{YieldsList-from_slice_split}
use Rattle.gix_hash.specs.Words.{id_kind}
use Rattle.gix_hash.specs.declared.ObjectId.{ObjectId}
use Rattle.directory_store.specs.Stores.{AppendsLooseIds}
use Rattle.directory_store.proofs.FileNames.{one_name}
use Rattle.directory_store.proofs.loose.push_ids.Goals as goal

pub loop-name-preserved : goal.loop-name-preserved
loop-name-preserved c =
    let before = c.loop-name.ids.items in let id = c.in-Some-loose_id.id in let IsOfKind = λ (id : ObjectId). id_kind id ≡ c.args.kind in
    record {
      kinds = λ old. subst (All IsOfKind) (sym c.in_ok-push.ensures.items) (All-push IsOfKind before id (c.loop-name.invariant.kinds old) c.in-Some-loose_id.ensures.0);
      ids = one_name c.args.kind c.args.byte c.loop-name.yielded c.in-Some.name c.args.ids.now.items before _ (Some id) c.loop-name.invariant.ids c.in-Some-loose_id.ensures
          c.in_ok-push.ensures.items;
    }

pub loop-name-preserved-in_default : goal.loop-name-preserved-in_default
loop-name-preserved-in_default c =
    let before = c.loop-name.ids.items in
    record {
      kinds = c.loop-name.invariant.kinds;
      ids = one_name c.args.kind c.args.byte c.loop-name.yielded c.in-Some.name c.args.ids.now.items before before c.loose_id.result c.loop-name.invariant.ids c.loose_id.ensures
          (rw (c.in_default.is, append-nil before));
    }

pub returns-clause-ids : goal.returns-clause-ids
returns-clause-ids c =
    let named = YieldsList-end (YieldsList-at c.into_iter-name-iterator.ensures.into_iter_gives
    (YieldsList-from_slice_split _ (λ byte. byte == 0) c.args.names.now c.split-name-items.ensures.rest c.split-name-items.ensures.done c.split-name-items.ensures.closure
    (λ x r q k. search (rules, tests)))) c.loop-name.yielded _ c.loop-name.yielded_by _ _ c.in-None.is c.next.ensures.steps in
    subst (λ (names : List (List ℕ)). AppendsLooseIds c.args.kind c.args.byte names c.args.ids.now.items c.loop-name.ids.items) named.0 c.loop-name.invariant.ids
