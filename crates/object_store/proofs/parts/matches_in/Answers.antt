use Rattle.gix_hash.proofs.Std.{◌≡◌, ◌∙◌, ◌++◌, List, ℕ, ap, map, subst, sym, arith, All, flat_map}
use Rattle.id_lookup.specs.Words.{Index, IsIndexOf, Kind, ObjectId, id_digits, id_kind, matches}
use Rattle.pack_index.specs.Lazy.{BucketIds}
use Rattle.object_store.proofs.PartIds.{are_of_kind}
use Rattle.object_store.proofs.parts.matches_in.Goals as goal

pub push_packed-requires-clause-kinds : goal.push_packed-requires-clause-kinds
push_packed-requires-clause-kinds g c =
    let view = g.S.Store.view c.args.store.now in
    let all = are_of_kind view c.args.prefix.now.digits c.args.buckets.now c.indexes-packs.ensures.kinds c.requires.buckets in
    subst (λ (k : Kind). All (λ (b : BucketIds). b.kind ≡ k) c.args.buckets.now) (sym c.object_hash-kind.ensures) all

pub push_all-requires : goal.push_all-requires
push_all-requires g c = λ k d low. c.beginning_with.ensures.kinds k d low ∙ ap (λ (table : Index). table.kind) c.loose.ensures ∙ sym c.object_hash-kind.ensures

pub returns : goal.returns
returns g c =
    let view = g.S.Store.view c.args.store.now in
    let digits = c.args.prefix.now.digits in
    let buckets = c.args.buckets.now in
    let read = c.requires.buckets.read in
    let kinds : All (λ (id : ObjectId). id_kind id ≡ view.kind) c.push_all.new.ids.items =
    subst (λ (k : Kind). All (λ (id : ObjectId). id_kind id ≡ k) c.push_all.new.ids.items) c.object_hash-kind.ensures
    (c.in_ok-push_all.ensures.kinds (c.in_ok-push_packed.ensures.kinds
    (subst (All (λ (id : ObjectId). id_kind id ≡ c.object_hash-kind.result)) (sym c.new-ids.ensures.items) (λ k d low. absurd (omega (arith, low)))))) in
    let front : map id_digits c.push_packed.new.ids.items ≡ flat_map (λ (b : BucketIds). matches digits b.ids) buckets =
    c.in_ok-push_packed.ensures.digits ∙ ap (λ (ids : List ObjectId). map id_digits ids ++ flat_map (λ (b : BucketIds). matches digits b.ids) buckets) c.new-ids.ensures.items in
    let loose : map id_digits c.beginning_with.result.now ≡ matches digits view.loose =
    c.beginning_with.ensures.ids ∙ ap (λ (table : Index). matches digits table.ids) c.loose.ensures in
    let all : map id_digits c.push_all.new.ids.items ≡ matches digits read = c.in_ok-push_all.ensures.digits ∙ (λ i. front i ++ loose i) ∙ c.requires.buckets.matched in
    record {
      read = read;
      ids_read = c.requires.buckets.ids_read;
      index = subst (λ (ids : List (List ℕ)). IsIndexOf view.kind ids (map id_digits c.sort_unique.new.ids.items)) all (c.sort_unique.ensures.index view.kind kinds);
      kinds = c.sort_unique.ensures.kinds view.kind kinds;
    }
