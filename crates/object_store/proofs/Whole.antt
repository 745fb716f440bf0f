-- A store whose pack indexes have right fan-out tables has read all of its ids with a first byte.
use Rattle.gix_hash.proofs.Std.{◌≡◌, ℕ, ◌<◌, ◌≤◌, inl, inr, Bool, true, nat_eq, None, List, [], ◌++◌, length, get_or, map, sym, ap, ◌∙◌, subst, arith, All, Contains, flat_map, starts_with, ext_get_or, get_or-map, length-map, Contains-append_cases, Contains-append_left, Contains-append_right, Contains-get_or, filter-append, flat_map-map}
use Rattle.id_lookup.specs.Words.{IsIndexOf, ObjectId, first_byte_of, has_first_byte, id_digits, matches, part_of}
use Rattle.id_lookup.proofs.Beginnings.{first_byte_of-begins, matches-part, same_test}
use Rattle.id_lookup.proofs.Filters.{contains_had, contains_kept, kept_passes}
use Rattle.id_lookup.proofs.SameMembers.{part_is}
use Rattle.std.proofs.lemmas.Slice.Zip.{AllZip-long}
use Rattle.pack_index.specs.Lazy.{IndexView, Tables}
use Rattle.pack_index.proofs.Buckets.{counted_all}
use Rattle.object_store.specs.Stores.{AreIdsRead, AreKnown, AreMatches, Holds, IsAbbreviationIn, StoreView, ids_held}
use Rattle.object_store.proofs.Held.{as_many, filter-flat_map, known_at, no_tables}
use Rattle.object_store.proofs.AbbreviationsAmong.{begins_itself}
use Rattle.object_store.proofs.PartIds.{AreCounted}
use Rattle.object_store.proofs.Zipped.{zipped_at}

module _ (view : StoreView) (byte : ℕ) (read : List (List ℕ)) (h : AreKnown view) (r : AreIdsRead view byte read) where
  abbrev packed : List (List ℕ)
  packed = flat_map (λ (one : Tables). one.ids) h.tables

  abbrev counted : Tables → List (List ℕ)
  counted tables = part_of byte tables.ids

  -- each pack index counts all of its ids that have the first byte
  each_counted : r.each ≡ map counted h.tables
  each_counted =
      let many = as_many view.packs h.tables h.known in
      let long : length r.each ≡ length view.packs = AllZip-long (AreCounted byte) view.packs r.each r.counted in
      ext_get_or [] r.each (map counted h.tables) (omega (arith, long, many, length-map h.tables counted)) (λ k low.
      let p : IndexView = record { kind = view.kind; count = 0; tables = None; can_fail = true } in
      let inside : k < length view.packs = omega (arith, low, long) in
      let within : k < length h.tables = omega (arith, inside, many) in
      let tables = get_or h.tables k no_tables in
      let there = zipped_at (AreCounted byte) view.packs r.each r.counted k p [] inside tables (known_at view.packs h.tables h.known k p inside) in
      there.1 ∙ counted_all tables byte (h.are_counted k no_tables within) r.small there.0 ∙ sym (get_or-map counted h.tables k no_tables [] within))

  pub read_is : read ≡ part_of byte packed ++ view.loose
  read_is =
      r.all ∙ ap (λ (names : List (List (List ℕ))). flat_map (λ (some : List (List ℕ)). some) names ++ view.loose) each_counted
      ∙ ap (λ (front : List (List ℕ)). front ++ view.loose)
      (flat_map-map (λ (some : List (List ℕ)). some) counted h.tables ∙ sym (filter-flat_map (has_first_byte byte) (λ (one : Tables). one.ids) h.tables))

  -- and of these with the digits, all that begin with them
  pub read_matches : (digits : List ℕ) → 2 ≤ length digits → first_byte_of digits ≡ byte → matches digits read ≡ matches digits (ids_held view h)
  read_matches digits long same =
      let p : List ℕ → Bool = λ id. starts_with nat_eq id digits in
      let front : matches digits (part_of byte packed) ≡ matches digits packed =
      subst (λ b. matches digits (part_of b packed) ≡ matches digits packed) same (matches-part digits packed long) in
      ap (matches digits) read_is ∙ filter-append p (part_of byte packed) view.loose ∙ ap (λ (ids : List (List ℕ)). ids ++ matches digits view.loose) front
      ∙ sym (filter-append p packed view.loose)

  -- only packed and loose ids of the store were read, and all that have the first byte
  pub read_had : (id : List ℕ) → Contains read id → Contains (ids_held view h) id
  read_had id has =
      elim (Contains-append_cases (part_of byte packed) view.loose id (subst (λ (ids : List (List ℕ)). Contains ids id) read_is has)) [
        | inl packs ↦ Contains-append_left packed view.loose id (contains_had (has_first_byte byte) packed id packs)
        | inr loose ↦ Contains-append_right packed view.loose id loose
      ]

  pub read_has : (id : List ℕ) → first_byte_of id ≡ byte → Contains (ids_held view h) id → Contains read id
  read_has id same has =
      subst (λ (ids : List (List ℕ)). Contains ids id) (sym read_is) (elim (Contains-append_cases packed view.loose id has) [
        | inl packs ↦ Contains-append_left (part_of byte packed) view.loose id (contains_kept (has_first_byte byte) packed id packs (same_test (first_byte_of id) byte same))
        | inr loose ↦ Contains-append_right (part_of byte packed) view.loose id loose
      ])

-- an abbreviation among ids is one among others, which have these, and no other ones with the first byte
pub abbreviation_among : (byte : ℕ) (some all : List (List ℕ)) → ((id : List ℕ) → Contains some id → Contains all id)
    → ((id : List ℕ) → first_byte_of id ≡ byte → Contains all id → Contains some id) → (fewest : ℕ) (id name : List ℕ) → 2 ≤ fewest → first_byte_of id ≡ byte
    → IsAbbreviationIn fewest some id name → IsAbbreviationIn fewest all id name
abbreviation_among byte some all had has fewest id name two same is = record {
  has = had id is.has;
  first = is.first;
  long = is.long;
  alone = λ other there begins.
      let two' : 2 ≤ length name = omega (arith, two, is.long) in
      let front : starts_with nat_eq id name ≡ true = subst (λ (n : List ℕ). starts_with nat_eq id n ≡ true) (sym is.first) (begins_itself id (length name)) in
      is.alone other (has other (first_byte_of-begins other name two' begins ∙ sym (first_byte_of-begins id name two' front) ∙ same) there) begins;
  least = λ n from to. let other = is.least n from to in (other.0, had other.0 other.1, other.2, other.3);
}

module _ (view : StoreView) (whole : List (List ℕ)) (byte : ℕ) (read : List (List ℕ)) (h : Holds view whole) (r : AreIdsRead view byte read) where
  -- so only ids of the store were read, and all that have the first byte
  pub whole_had : (id : List ℕ) → Contains read id → Contains whole id
  whole_had id has = (h.all.members id).1 (read_had view byte read h.are_known r id has)

  pub whole_has : (id : List ℕ) → first_byte_of id ≡ byte → Contains whole id → Contains read id
  whole_has id same has = read_has view byte read h.are_known r id same ((h.all.members id).0 has)

  -- so what is found for digits with this first byte is what begins with them in the whole store
  pub whole_found : (digits : List ℕ) (found : List (List ℕ)) → 2 ≤ length digits → first_byte_of digits ≡ byte → IsIndexOf view.kind (matches digits read) found
      → found ≡ matches digits whole
  whole_found digits found long same index =
      part_is view.kind (λ id. starts_with nat_eq id digits) (ids_held view h.are_known) whole found h.all
      (subst (λ (ids : List (List ℕ)). IsIndexOf view.kind ids found) (read_matches view byte read h.are_known r digits long same) index)

  -- and an abbreviation among the ids that were read is one in the store
  pub whole_abbreviation : (fewest : ℕ) (id name : List ℕ) → 2 ≤ fewest → first_byte_of id ≡ byte → IsAbbreviationIn fewest read id name → IsAbbreviationIn fewest whole id name
  whole_abbreviation fewest id name two same is = abbreviation_among byte read whole whole_had whole_has fewest id name two same is

-- what is found begins with the digits, and was read
pub found_begins : (view : StoreView) (digits : List ℕ) (ids : List ObjectId) → AreMatches view digits ids → All (λ id. starts_with nat_eq (id_digits id) digits ≡ true) ids
found_begins view digits ids are k d low =
    let id = id_digits (get_or ids k d) in
    let there : Contains (map id_digits ids) id =
    subst (Contains (map id_digits ids)) (get_or-map id_digits ids k d [] low) (Contains-get_or (map id_digits ids) k [] (omega (arith, low, length-map ids id_digits))) in
    kept_passes (λ x. starts_with nat_eq x digits) are.read id ((are.index.members id).0 there)
