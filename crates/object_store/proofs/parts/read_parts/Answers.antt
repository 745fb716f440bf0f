use Rattle.gix_hash.proofs.Std.{◌≤◌, ◌∙◌, ◌<◌, List, None, [], true, ap, length, length-map, arith, refl, subst, sym, AllZip, All-more, take_all}
use Rattle.std.specs.Option.{ForSome}
use Rattle.pack_index.specs.Lazy.{HasBucket, IndexView, IsBucketFault, seen}
use Rattle.id_lookup.specs.Words.{Kind, first_byte_of}
use Rattle.object_store.proofs.Prefixes.{small_byte}
use Rattle.object_store.proofs.Held.{fault_at, pack_here}
use Rattle.object_store.proofs.PartIds.{IsPart, are_parts}
use Rattle.object_store.proofs.Zipped.{zipped_more}
use Rattle.object_store.proofs.parts.read_parts.Goals as goal

any_of : Kind → IndexView
any_of kind = record { kind = kind; count = 0; tables = None; can_fail = true }

pub loop-at-init : goal.loop-at-init
loop-at-init g c = (refl, subst (AllZip (IsPart c.args.prefix.now.digits) []) (sym c.in_ok-buckets.ensures.items) tt, λ k d low. absurd (omega arith))

pub loop-at-preserved : goal.loop-at-preserved
loop-at-preserved g c =
    let view = g.S.Store.view c.args.store.now in
    let digits = c.args.prefix.now.digits in
    let any : IndexView = any_of view.kind in
    let low : c.loop-at.at < length view.packs = omega (arith, c.loop-at-test.true, c.loop-at.auto.at-end, ap length c.indexes-packs.ensures.value, length-map c.indexes-packs.result.now seen) in
    let parts = rw c.loop-at.invariant.0 at c.in-Ok.ensures.part in
    let part = parts any in (
      c.part.ensures.same ∙ c.loop-at.invariant.0,
      zipped_more (IsPart digits) view.packs c.loop-at.at any c.loop-at.buckets.items c.push.new.items.items c.in-Ok.bucket low c.loop-at.invariant.1 part c.in_ok-push-in-Ok.ensures,
      All-more (λ (pack : IndexView). ForSome pack.tables (λ tables. HasBucket tables (first_byte_of digits))) view.packs c.loop-at.at any low c.loop-at.invariant.2
          (λ tables known. (part.known tables known).right),
    )

pub returns-in-Err-clause-err : goal.returns-in-Err-clause-err
returns-in-Err-clause-err g c =
    let view = g.S.Store.view c.args.store.now in
    let digits = c.args.prefix.now.digits in
    let low : c.loop-at.at < length view.packs = omega (arith, c.loop-at-test.true, c.loop-at.auto.at-end, ap length c.indexes-packs.ensures.value, length-map c.indexes-packs.result.now seen) in
    let any : IndexView = any_of view.kind in
    let fault = rw c.loop-at.invariant.0 at c.in-Err.ensures.err in
    let path = rw (c.part.ensures.same, c.loop-at.invariant.0) at c.in_ok-index_path-in-Err.ensures in
    fault_at (λ tables. HasBucket tables (first_byte_of digits)) (λ can_fail tables why. IsBucketFault can_fail tables (first_byte_of digits) why) view
    (pack_here any low) c.loop-at.invariant.2 c.in-Err.error c.of_index.result (fault any) (_, path, c.of_index.ensures)

pub returns-clause-read : goal.returns-clause-read
returns-clause-read g c =
    let view = g.S.Store.view c.args.store.now in
    let digits = c.args.prefix.now.digits in
    let long : length view.packs ≤ c.loop-at.at = omega (arith, ap length c.indexes-packs.ensures.value, length-map c.indexes-packs.result.now seen, c.loop-at-test.false) in
    are_parts view digits c.loop-at.buckets.items c.requires.enough (small_byte digits c.requires.enough c.hex_len-hex_len.ensures.digits_in_range)
    (subst (λ (some : List IndexView). AllZip (IsPart digits) some c.loop-at.buckets.items) (take_all c.loop-at.at view.packs long) c.loop-at.invariant.1)
