-- What parts of pack indexes have of the ids of a store.
use Rattle.gix_hash.proofs.Std.{◌≡◌, ℕ, Option, Some, refl, same_Some, ◌+◌, ◌<◌, ◌≤◌, Bool, true, None, List, [], ◌∷◌, ◌++◌, length, get_or, filter, take, sym, ap, ◌∙◌, subst, arith, append_assoc, All, AllZip, flat_map, length-append, nat_eq, starts_with, filter-append}
use Rattle.std.proofs.lemmas.Slice.Zip.{AllZip-long}
use Rattle.std.specs.Option.{ForSome}
use Rattle.id_lookup.specs.Words.{first_byte_of, matches}
use Rattle.id_lookup.proofs.Beginnings.{first_byte_of-begins}
use Rattle.id_lookup.proofs.Filters.{filter-flat, filter_within}
use Rattle.id_lookup.proofs.Spelled.{starts_with-BeginsWith}
use Rattle.object_store.specs.Stores.{AreIdsRead, AreParts, HaveBuckets, StoreView}
use Rattle.pack_index.specs.Lazy.{BucketIds, HasBucket, IsPartOf, IndexView, Tables, counted_with}
use Rattle.pack_index.proofs.Parts.{begins_less, part_for_more, part_matches}
use Rattle.object_store.proofs.Held.{filter-flat_map, flat_map-take}
use Rattle.object_store.proofs.Zipped.{zipped_at, zipped_weaker}

-- this is a part of the pack index, as a relation of the two
abbrev pub IsPart : List ℕ → IndexView → BucketIds → Type 0
IsPart digits pack part = IsPartOf pack digits part

-- these are the ids that a pack index counts with the first byte, all of which have it, if its tables are known
abbrev pub AreCounted : ℕ → IndexView → List (List ℕ) → Type 0
AreCounted byte pack names = ForSome pack.tables (λ tables. HasBucket tables byte × (names ≡ counted_with tables byte))

-- so pack indexes whose ids were read have the ids that are counted
pub have_read : (view : StoreView) (byte : ℕ) (ids : List (List ℕ)) → AreIdsRead view byte ids → HaveBuckets view byte
have_read view byte ids are k d low tables known = (zipped_at (AreCounted byte) view.packs are.each are.counted k d [] low tables known).0

-- the parts are of the kind
pub are_of_kind : (view : StoreView) (digits : List ℕ) (parts : List BucketIds) → All (λ (p : IndexView). p.kind ≡ view.kind) view.packs
    → AreParts view digits parts → All (λ (b : BucketIds). b.kind ≡ view.kind) parts
are_of_kind view digits parts kinds are k b low =
    let p : IndexView = record { kind = view.kind; count = 0; tables = None; can_fail = true } in
    let within : k < length view.packs = omega (arith, low, AllZip-long (IsPart digits) view.packs parts are.each) in
    (zipped_at (IsPart digits) view.packs parts are.each k p b within).kind ∙ kinds k p within

-- one bucket more was gathered
pub bucket_more : (p : List ℕ → Bool) (buckets : List BucketIds) (k : ℕ) (bucket : BucketIds) (first old new : List (List ℕ)) → k < length buckets
    → bucket ≡ get_or buckets k bucket → old ≡ first ++ flat_map (λ (b : BucketIds). filter p b.ids) (take k buckets) → new ≡ old ++ filter p bucket.ids
    → new ≡ first ++ flat_map (λ (b : BucketIds). filter p b.ids) (take (k + 1) buckets)
bucket_more p buckets k bucket first old new low here before all =
    let f : BucketIds → List (List ℕ) = λ b. filter p b.ids in
    all ∙ (λ i. before i ++ f (here i)) ∙ append_assoc first (flat_map f (take k buckets)) (f (get_or buckets k bucket))
    ∙ ap (λ (rest : List (List ℕ)). first ++ rest) (sym (flat_map-take f buckets k bucket low))

-- the ids that a pack index counts with the first byte, if its tables are known, or else those that were read
module _ (digits : List ℕ) where
  abbrev byte : ℕ
  byte = first_byte_of digits

  names_of : (pack : IndexView) (part : BucketIds) (tables : Option Tables) → pack.tables ≡ tables → IsPartOf pack digits part
      → (names : List (List ℕ)) × AreCounted byte pack names × (matches digits part.ids ≡ matches digits names)
  names_of pack part None unknown is = (part.ids, λ tables known. absurd cc, refl)
  names_of pack part (Some tables) here is = (
    counted_with tables byte,
    λ other known. ((is.known other known).right, ap (λ (all : Tables). counted_with all byte) (same_Some tables other (sym here ∙ known))),
    part_matches tables digits part (is.known tables here),
  )

  all_ids : (packs : List IndexView) (parts : List BucketIds) → AllZip (IsPart digits) packs parts
      → (names : List (List (List ℕ))) × AllZip (AreCounted byte) packs names × (flat_map (λ (b : BucketIds). matches digits b.ids) parts ≡ flat_map (matches digits) names)
  all_ids [] [] each = ([], tt, refl)
  all_ids [] (part ∷ parts) each = absurd each
  all_ids (pack ∷ packs) [] each = absurd each
  all_ids (pack ∷ packs) (part ∷ parts) each =
      let one = names_of pack part pack.tables refl each.0 in
      let rest = all_ids packs parts each.1 in
      (one.0 ∷ rest.0, (one.1, rest.1), λ i. one.2 i ++ rest.2 i)

-- what was gathered of the parts and of the loose ids is what passes of all
gathered : (p : List ℕ → Bool) (parts : List BucketIds) (names : List (List (List ℕ))) (loose : List (List ℕ))
    → flat_map (λ (b : BucketIds). filter p b.ids) parts ≡ flat_map (filter p) names
    → flat_map (λ (b : BucketIds). filter p b.ids) parts ++ filter p loose ≡ filter p (flat_map (λ (some : List (List ℕ)). some) names ++ loose)
gathered p parts names loose matched =
    ap (λ (front : List (List ℕ)). front ++ filter p loose) matched
    ∙ sym (filter-append p (flat_map (λ (some : List (List ℕ)). some) names) loose ∙ ap (λ (front : List (List ℕ)). front ++ filter p loose) (filter-flat p names))

-- so parts of all pack indexes have the ids that these count, as far as they begin with the digits
pub are_parts : (view : StoreView) (digits : List ℕ) (parts : List BucketIds) → 2 ≤ length digits → first_byte_of digits < 256
    → AllZip (IsPart digits) view.packs parts → AreParts view digits parts
are_parts view digits parts enough small each =
    let all = all_ids digits view.packs parts each in record {
      enough = enough;
      each = each;
      read = flat_map (λ (some : List (List ℕ)). some) all.0 ++ view.loose;
      ids_read = record { small = small; each = all.0; counted = all.1; all = refl };
      matched = gathered (λ id. starts_with nat_eq id digits) parts all.0 view.loose all.2;
    }

-- parts for some digits are parts for each that begin with them
module _ (view : StoreView) (digits more : List ℕ) (parts : List BucketIds) (begins : starts_with nat_eq more digits ≡ true) (are : AreParts view digits parts) where
  same_byte : first_byte_of more ≡ first_byte_of digits
  same_byte = first_byte_of-begins more digits are.enough begins

  narrower : (ids : List (List ℕ)) → matches more (matches digits ids) ≡ matches more ids
  narrower = filter_within (λ id. starts_with nat_eq id digits) (λ id. starts_with nat_eq id more) (λ id. begins_less id more digits begins)

  narrowed : {X : Type 0} (names : X → List (List ℕ)) (xs : List X) → matches more (flat_map (λ x. matches digits (names x)) xs) ≡ flat_map (λ x. matches more (names x)) xs
  narrowed names xs =
      filter-flat_map (λ id. starts_with nat_eq id more) (λ x. matches digits (names x)) xs ∙ (λ i. flat_map (λ x. narrower (names x) i) xs)

  pub parts_for_more : AreParts view more parts
  parts_for_more = record {
    enough = let split = (starts_with-BeginsWith more digits).0 begins in omega (arith, are.enough, ap length split.1, length-append digits split.0);
    each = zipped_weaker (IsPart digits) (IsPart more) (λ pack part. part_for_more pack digits more part are.enough begins) view.packs parts are.each;
    read = are.read;
    ids_read = subst (λ byte. AreIdsRead view byte are.read) (sym same_byte) are.ids_read;
    matched =
        (λ i. sym (narrowed (λ (b : BucketIds). b.ids) parts) i ++ sym (narrower view.loose) i)
        ∙ sym (filter-append (λ id. starts_with nat_eq id more) (flat_map (λ (b : BucketIds). matches digits b.ids) parts) (matches digits view.loose))
        ∙ ap (matches more) are.matched ∙ narrower are.read;
  }
