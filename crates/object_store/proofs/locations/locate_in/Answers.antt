use Rattle.gix_hash.proofs.Std.{◌≡◌, ◌∙◌, ℕ, List, Option, None, Some, [], ◌∷◌, ◌++◌, append-nil, ap, bytes_eq, cond, get_or, length, length-map, list_any, option_map, subst, sym, arith, AllZip, take_all}
use Rattle.std.proofs.lemmas.Slice.Zip.{AllZip-long}
use Rattle.id_lookup.specs.Words.{Index, first_byte_of, id_digits}
use Rattle.std.specs.Option.{ForSome}
use Rattle.pack_index.specs.Lazy.{BucketIds, HasBucket, IndexView, IsPartOf, seen}
use Rattle.object_store.specs.Stores.{AreParts, HasOffsetOf, IsLocationFault, StoreView}
use Rattle.object_store.specs.declared.locations.Location.TheVariants.{Loose}
use Rattle.object_store.proofs.Held.{IsPackAt, fault_at, pack_at}
use Rattle.object_store.proofs.Located.{IsOffsetAt, have_offsets, offset_fault, packed_more}
use Rattle.object_store.proofs.LooseParts.{any_is}
use Rattle.object_store.proofs.PartIds.{IsPart}
use Rattle.object_store.proofs.Zipped.{zipped_at}
use Rattle.object_store.proofs.locations.locate_in.Goals as goal
use Rattle.object_store.proofs.locations.locate_in.Goals.{else-contains, in-Some+in-Ok+in_ok-push-in-Ok, in_default, then-contains+in_ok-push}

-- the pack index at a position has the ids that are counted with the first byte, as they were read
right_at : (view : StoreView) (digits : List ℕ) (parts : List BucketIds) → AreParts view digits parts → (at : ℕ) (pack : IndexView) → IsPackAt view.packs at pack
    → ForSome pack.tables (λ tables. HasBucket tables (first_byte_of digits))
right_at view digits parts are at pack here =
    let any : BucketIds = record { kind = view.kind; start = 0; ids = [] } in
    let part = zipped_at (IsPart digits) view.packs parts are.each at pack any here.low in
    subst (λ (p : IndexView). ForSome p.tables (λ tables. HasBucket tables (first_byte_of digits))) (sym here.is) (λ tables known. (part.known tables known).right)

-- there is a part of each pack index
as_many : (view : StoreView) (digits : List ℕ) (parts : List BucketIds) → AreParts view digits parts → length parts ≡ length view.packs
as_many view digits parts are = AllZip-long (IsPart digits) view.packs parts are.each

pub offset_bounds-buckets-pack : goal.offset_bounds-buckets-pack
offset_bounds-buckets-pack g c =
    omega (arith, as_many (g.S.Store.view c.args.store.now) (id_digits c.args.id.now) c.args.buckets.now c.requires.buckets, ap length c.indexes-packs.ensures.value, length-map c.indexes-packs.result.now seen, c.loop-pack-test.true)

pub bounds-buckets-pack : goal.bounds-buckets-pack
bounds-buckets-pack g c =
    omega (arith, as_many (g.S.Store.view c.args.store.now) (id_digits c.args.id.now) c.args.buckets.now c.requires.buckets, ap length c.indexes-packs.ensures.value, length-map c.indexes-packs.result.now seen, c.loop-pack-test.true)

pub lookup-requires : goal.lookup-requires
lookup-requires g c =
    let view = g.S.Store.view c.args.store.now in
    let digits = id_digits c.args.id.now in
    let at = c.loop-pack.pack in
    let pack = seen c.index-packs-pack.result in
    let bucket = c.index-buckets-pack.result in
    let here = pack_at c.indexes-packs.result.now c.indexes-packs.ensures.value c.loop-pack-test.true c.index-packs-pack.is in
    let part : IsPartOf (get_or view.packs at pack) digits (get_or c.args.buckets.now at bucket) =
    zipped_at (IsPart digits) view.packs c.args.buckets.now c.requires.buckets.each at pack bucket here.low in
    rw c.as_oid.ensures.digits
    (subst (λ (b : BucketIds). IsPartOf pack digits b) (sym c.index-buckets-pack.is)
    (subst (λ (p : IndexView). IsPartOf p digits (get_or c.args.buckets.now at bucket)) (sym here.is) part))

pub loop-pack-init : goal.loop-pack-init
loop-pack-init g c = ([], tt, c.new-locations.ensures.items)

pub returns-in-Err-clause-err : goal.returns-in-Err-clause-err
returns-in-Err-clause-err g c =
    let view = g.S.Store.view c.args.store.now in
    let digits = id_digits c.args.id.now in
    let pack = seen c.index-packs-pack.result in
    let here = pack_at c.indexes-packs.result.now c.indexes-packs.ensures.value c.loop-pack-test.true c.index-packs-pack.is in
    let right = right_at view digits c.args.buckets.now c.requires.buckets c.loop-pack.pack pack here in
    fault_at (λ tables. (offset : Option ℕ) × HasOffsetOf digits offset tables) (λ can_fail tables why. IsLocationFault can_fail tables digits why) view here
    (have_offsets view digits c.loop-pack.pack c.loop-pack.locations.items c.loop-pack.invariant) c.in-Err.error c.of_index.result
    (λ tables is.
    offset_fault pack.can_fail tables digits c.in-Some.at c.in-Err.error (right tables is) (rw (c.as_oid.ensures.digits, c.in-Some.is) at (c.lookup.ensures.counted tables is))
    (c.in-Err.ensures.err tables is)) (_, c.in_ok-index_path-in-Err.ensures, c.of_index.ensures)

pub loop-pack-preserved : goal.loop-pack-preserved
loop-pack-preserved g c =
    let view = g.S.Store.view c.args.store.now in
    let digits = id_digits c.args.id.now in
    let pack = seen c.index-packs-pack.result in
    let here = pack_at c.indexes-packs.result.now c.indexes-packs.ensures.value c.loop-pack-test.true c.index-packs-pack.is in
    let right = right_at view digits c.args.buckets.now c.requires.buckets c.loop-pack.pack pack here in
    let more = packed_more view digits c.loop-pack.pack pack in
    elim c.match-lookup.branch [
      | in-Some+in-Ok+in_ok-push-in-Ok w ↦
          more (Some w.in-Ok.offset) c.loop-pack.locations.items c.match-lookup.locations.items here
          (λ tables is. (
            right tables is,
            ap (option_map tables.offset) (sym (rw (c.as_oid.ensures.digits, w.in-Some.is) at (c.lookup.ensures.counted tables is))) ∙ ap Some (w.in-Ok.ensures.offset tables is),
          ))
          c.loop-pack.invariant (rw w.locations-is w.in_ok-push-in-Ok.ensures)
      | in_default w ↦
          more None c.loop-pack.locations.items c.match-lookup.locations.items here
          (λ tables is. (right tables is, ap (option_map tables.offset) (sym (rw (c.as_oid.ensures.digits, w.in_default.is) at (c.lookup.ensures.counted tables is)))))
          c.loop-pack.invariant (rw w.locations-is (sym (append-nil c.loop-pack.locations.items)))
    ]

pub returns-clause-locations : goal.returns-clause-locations
returns-clause-locations g c =
    let view = g.S.Store.view c.args.store.now in
    let digits = id_digits c.args.id.now in
    let loose = any_is c.loose.result.now.ids digits c.contains.result c.contains.ensures ∙ ap (λ (table : Index). list_any (λ other. bytes_eq other digits) table.ids) c.loose.ensures in
    let packed = c.loop-pack.locations.items in
    let are = c.loop-pack.invariant in
    let all = take_all c.loop-pack.pack view.packs (omega (arith, ap length c.indexes-packs.ensures.value, length-map c.indexes-packs.result.now seen, c.loop-pack-test.false)) in
    record {
      small = c.requires.buckets.ids_read.small;
      offsets = are.0;
      read = subst (λ (packs : List IndexView). AllZip (IsOffsetAt digits) packs are.0) all are.1;
      all = elim c.if-contains.branch [
        | then-contains+in_ok-push w ↦
            ap (λ (v : _). v.items) w.locations-is ∙ w.in_ok-push.ensures ∙ (λ i. are.2 i ++ cond ((sym w.if-contains.true ∙ loose) i) (Loose ∷ []) [])
        | else-contains w ↦
            ap (λ (v : _). v.items) w.locations-is ∙ sym (append-nil packed) ∙ (λ i. are.2 i ++ cond ((sym w.if-contains.false ∙ loose) i) (Loose ∷ []) [])
      ];
    }
