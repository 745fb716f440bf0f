use Rattle.gix_hash.proofs.Std.{◌≡◌, ◌-◌, ◌<◌, ◌≤◌, ◌∙◌, List, ℕ, [], true, false, length, get_or, map, nat_cmp, is_lt, sym, ap, subst, arith, slice_cmp, not-true, length-map, Contains}
use Rattle.id_lookup.specs.Words.{oid_digits}
use Rattle.id_lookup.specs.Words.{KindDigits, least_hex_len}
use Rattle.pack_index.specs.Format.{IsFirstIndexOf}
use Rattle.pack_index.proofs.Looked.{first_between, found_first}
use Rattle.pack_index.proofs.bucket.start_of.Goals as goal
use Rattle.pack_index.proofs.bucket.start_of.Goals.{then-start-eq0, else-start-eq0, then-start-ids, else-start-ids}

pub find_assuming_sorted_near-requires : goal.find_assuming_sorted_near-requires
find_assuming_sorted_near-requires g c =
    subst (λ (p : KindDigits). length p.digits ≤ least_hex_len (map g.I.Id.digits c.args.ids.now)) (sym c.all_digits-prefix.ensures) c.requires.enough_digits

pub returns-clause-first : goal.returns-clause-first
returns-clause-first g c =
    let names = map g.I.Id.digits c.args.ids.now in
    let digits = ap (λ (p : KindDigits). p.digits) c.all_digits-prefix.ensures in
    subst (λ (ds : List ℕ). Contains names ds → IsFirstIndexOf names ds c.find_assuming_sorted_near.result.start) digits
    (found_first c.all_digits-prefix.result names c.find_assuming_sorted_near.result (c.find_assuming_sorted_near.ensures.run c.requires.sorted) c.beginnings.ensures.digits
    (λ k inside. c.requires.long k inside ∙ sym (ap length digits)))

pub returns-then-is_before-clause-first : goal.returns-then-is_before-clause-first
returns-then-is_before-clause-first g c =
    let names = map g.I.Id.digits c.args.ids.now in
    let id = oid_digits c.args.id in
    let start = c.min-start.result in
    let len : length names ≡ length c.args.ids.now = length-map c.args.ids.now g.I.Id.digits in
    let below : 0 < start → is_lt (slice_cmp nat_cmp (get_or names (start - 1) []) id) ≡ true =
    elim c.if-start-eq0.branch [ then-start-eq0 w ↦ λ some. absurd (omega arith) | else-start-eq0 w ↦ λ _. cc ] in
    let above : start < length names → is_lt (slice_cmp nat_cmp (get_or names start []) id) ≡ false =
    elim c.if-start-ids.branch [
      | then-start-ids w ↦ λ some. absurd (omega arith)
      | else-start-ids w ↦ λ _. let no = not-true w.is_below.result (sym w.is_before-is ∙ c.if-is_before.true) in cc
    ] in
    first_between names id start c.requires.sorted (omega (arith, c.min-start.ensures)) below above
