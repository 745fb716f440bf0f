use Rattle.gix_hash.proofs.Std.{◌/◌, ◌%◌, ◌∷◌, [], ℕ, List, map, sym, subst, arith, All}
use Rattle.id_lookup.specs.Words.{IsIndexOf, Kind, ObjectId, id_digits, matches}
use Rattle.object_store.specs.Stores.{AreIdsRead, AreMatches, IsOfKind}
use Rattle.object_store.proofs.AbbreviationsAmong.{abbreviated_digits, abbreviations_read}
use Rattle.object_store.proofs.look_ups.abbreviate_part.Goals as goal

pub returns-clause-abbreviated : goal.returns-clause-abbreviated
returns-clause-abbreviated g c =
    let view = g.S.Store.view c.args.store.now in
    let byte = c.args.byte in
    let digits : List ℕ = byte / 16 ∷ byte % 16 ∷ [] in
    let ids = c.deref.result.now in
    let abbreviated = c.in_ok-with_abbreviations.field-0.items in
    let found : AreMatches view c.two_digits.result.digits c.in_ok-ids.ids.items =
    c.in_ok-ids.ensures.matches in
    let index : IsIndexOf view.kind (matches digits found.read) (map id_digits ids) =
    subst (λ (ds : List ℕ). IsIndexOf view.kind (matches ds found.read) (map id_digits ids)) c.two_digits.ensures.digits
    (subst (λ (xs : List ObjectId). IsIndexOf view.kind (matches c.two_digits.result.digits found.read) (map id_digits xs)) (sym c.deref.ensures.value) found.index) in
    record {
      read = found.read;
      ids_read = subst (λ b. AreIdsRead view b found.read) c.two_digits.ensures.byte found.ids_read;
      index = subst (IsIndexOf view.kind (matches digits found.read)) (sym (abbreviated_digits ids abbreviated c.in_ok-with_abbreviations.ensures.ids)) index;
      abbreviations = abbreviations_read view.kind c.args.least found.read digits ids abbreviated (omega (arith, c.requires.enough)) index c.in_ok-with_abbreviations.ensures.ids c.in_ok-with_abbreviations.ensures.abbreviations;
      kinds = subst (λ (k : Kind). All (IsOfKind k) abbreviated) c.object_hash-kind.ensures c.in_ok-with_abbreviations.ensures.kinds;
    }
