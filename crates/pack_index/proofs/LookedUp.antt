-- Where an id is among the ids of a pack index, by those that are counted with its first byte.
use Rattle.gix_hash.proofs.Std.{◌≡◌, ◌≢◌, ℕ, ◌+◌, ◌-◌, ◌<◌, Bool, true, false, inl, inr, Option, None, Some, List, [], ◌++◌, All, Contains, length, filter, get_or, take, drop, refl, sym, ap, ◌∙◌, subst, arith, bytes_decides, bytes_eq, cases_lt, eq-eqb, false_from_ne_true, false≢true, fails_before_first, le-ltb, lt-ltb, nat_eq, option_map, position, position_or_len, position_or_len_is, append-nil, get_or_default, length-append, length-drop, length-take, length-take-le, filter-append, nil_from_length, starts_with}
use Rattle.std.proofs.lemmas.List.Quantifiers.{position-Some}
use Rattle.std.specs.Prelude.{MatchOption}
use Rattle.id_lookup.specs.Words.{first_byte_of, has_first_byte}
use Rattle.id_lookup.proofs.Filtering.{filter_all, three_parts}
use Rattle.id_lookup.proofs.Filters.{contains_kept}
use Rattle.id_lookup.proofs.Spelled.{starts_with-BeginsWith}
use Rattle.pack_index.specs.Format.{IsFirstIndexOf}
use Rattle.pack_index.specs.Lazy.{AreAmong, BucketIds, HasBucket, HaveRightCounts, Tables, bucket_start, counted_with, position_of}
use Rattle.pack_index.proofs.Buckets.{counted_all}
use Rattle.pack_index.proofs.Ranges.{position_between, range_at, shifted}

module _ (id : List ℕ) where
  -- a test for an id
  abbrev is_id : List ℕ → Bool
  is_id name = bytes_eq name id

  differs : (name : List ℕ) → name ≢ id → is_id name ≡ false
  differs name other = false_from_ne_true _ (λ is. other ((bytes_decides name id).0 is))

  -- a position that was found is that of the first name that passes
  pub first_position : (names : List (List ℕ)) (found : Option ℕ) → MatchOption found ((k : ℕ) → k < length names → get_or names k [] ≢ id) (IsFirstIndexOf names id) → found ≡ position is_id names
  first_position names None none =
      let size = length names in
      rw (position_or_len_is is_id names size [] (omega arith) (λ k low. differs (get_or names k []) (none k low)) (λ low. absurd (omega (arith, low))), le-ltb size size (omega arith)) refl
  first_position names (Some at) first =
      let low = first.in_range in
      rw (
        position_or_len_is is_id names at [] (omega (arith, low)) (λ k less. differs (get_or names k []) (first.first k less)) (λ _. (bytes_decides (get_or names at []) id).1 first.same),
        lt-ltb at (length names) low,
      ) refl

  pub position_first : (names : List (List ℕ)) (found : Option ℕ) → found ≡ position is_id names → MatchOption found ((k : ℕ) → k < length names → get_or names k [] ≢ id) (IsFirstIndexOf names id)
  position_first names None is = λ k low same.
      elim (cases_lt (position_or_len is_id names) (length names)) [
        | inl less ↦ let found = rw (lt-ltb (position_or_len is_id names) (length names) less) at is in cc
        | inr past ↦ false≢true (sym (fails_before_first is_id names k [] (omega (arith, low, past))) ∙ (bytes_decides (get_or names k []) id).1 same)
      ]
  position_first names (Some at) is =
      let found = position-Some is_id names at [] (sym is) in record {
        in_range = found.0;
        same = (bytes_decides (get_or names at []) id).0 found.1;
        first = λ k low same. false≢true (sym (found.2 k low) ∙ (bytes_decides (get_or names k []) id).1 same);
      }

  -- if none passes another test that the id passes, none is the id
  none_is : (p : List ℕ → Bool) (names : List (List ℕ)) → filter p names ≡ [] → p id ≡ true → All (λ name. is_id name ≡ false) names
  none_is p names none passes k d low =
      differs (get_or names k d) (λ same.
      let kept = subst (λ (ids : List (List ℕ)). Contains ids id) none (contains_kept p names id (k, low, get_or_default names k id d low ∙ same) passes) in
      omega (arith, kept.1))

-- in the part of a bucket for an id the id is where it is among those that are counted with its first byte
part_position : (tables : Tables) (part : BucketIds) (id : List ℕ) → AreAmong tables id part → option_map (λ k. part.start + k) (position (is_id id) part.ids) ≡ position_of id tables
part_position tables part id among =
    let start = bucket_start tables.up_to (first_byte_of id) in
    let p : List ℕ → Bool = λ name. starts_with nat_eq name id in
    let begins : p id ≡ true = (starts_with-BeginsWith id id).1 ([], sym (append-nil id)) in
    shifted start (length among.before) part.start (position (is_id id) part.ids) (sym among.start)
    ∙ ap (option_map (λ k. start + k)) (sym (ap (position (is_id id)) among.all
    ∙ position_between (is_id id) among.before part.ids among.after (none_is id p among.before among.none_before begins) (none_is id p among.after among.none_after begins)))

-- and that is where it is among all, if the fan-out table is right
pub position_whole : (tables : Tables) (id : List ℕ) → HaveRightCounts tables → first_byte_of id < 256 → HasBucket tables (first_byte_of id) → position (is_id id) tables.ids ≡ position_of id tables
position_whole tables id counts small has =
    let p = has_first_byte (first_byte_of id) in
    let start = bucket_start tables.up_to (first_byte_of id) in
    let front = take start tables.ids in
    let middle = counted_with tables (first_byte_of id) in
    let back = drop (tables.up_to (first_byte_of id)) tables.ids in
    let long : length front ≡ start = length-take-le start tables.ids (omega (arith, has.inside, has.in_order)) in
    let parts = ap length (counted_all tables (first_byte_of id) counts small has ∙ ap (filter p) (sym (three_parts p tables.ids start (tables.up_to (first_byte_of id)) has.in_order))
    ∙ filter-append p front (middle ++ back)) ∙ length-append (filter p front) (filter p (middle ++ back)) in
    let rest = ap length (filter-append p middle back) ∙ length-append (filter p middle) (filter p back) in
    let all = ap length (filter_all p middle has.first) in
    let none : (names : List (List ℕ)) → length (filter p names) ≡ 0 → All (λ name. is_id id name ≡ false) names =
    λ names none. none_is id p names (nil_from_length (filter p names) none) (eq-eqb (first_byte_of id) (first_byte_of id) refl) in
    ap (position (is_id id)) (sym (three_parts p tables.ids start (tables.up_to (first_byte_of id)) has.in_order))
    ∙ position_between (is_id id) front middle back (none front (omega (arith, parts, rest, all))) (none back (omega (arith, parts, rest, all)))
    ∙ ap (λ n. option_map (λ k. n + k) (position (is_id id) middle)) long

-- what was found in the part of a bucket for an id
module _ (tables : Tables) (part : BucketIds) (id : List ℕ) (among : AreAmong tables id part) (found : Option ℕ)
    (is : MatchOption found ((k : ℕ) → k < length part.ids → get_or part.ids k [] ≢ id) (IsFirstIndexOf part.ids id)) where
  pub found_counted : option_map (λ k. part.start + k) found ≡ position_of id tables
  found_counted = ap (option_map (λ k. part.start + k)) (first_position id part.ids found is) ∙ part_position tables part id among

  pub found_whole : HaveRightCounts tables → first_byte_of id < 256
      → MatchOption (option_map (λ k. part.start + k) found) ((k : ℕ) → k < length tables.ids → get_or tables.ids k [] ≢ id) (IsFirstIndexOf tables.ids id)
  found_whole counts small = position_first id tables.ids (option_map (λ k. part.start + k) found) (found_counted ∙ sym (position_whole tables id counts small among.right))

-- the id at the position of an id is this one
pub name_is : (tables : Tables) (id : List ℕ) (at : ℕ) → Some at ≡ position_of id tables → (at < length tables.ids) × (get_or tables.ids at [] ≡ id)
name_is tables id at =
    let start = bucket_start tables.up_to (first_byte_of id) in
    let end = tables.up_to (first_byte_of id) in
    let counted = counted_with tables (first_byte_of id) in
    elim (position (is_id id) counted) as (λ o. position (is_id id) counted ≡ o → Some at ≡ option_map (λ k. start + k) o → (at < length tables.ids) × (get_or tables.ids at [] ≡ id)) [
      | None ↦ λ was is. cc
      | Some k ↦ λ was is.
          let found = position-Some (is_id id) counted k [] was in
          let same : at ≡ start + k = cc in (
            omega (arith, same, found.0, length-take (end - start) (drop start tables.ids), length-drop start tables.ids),
            ap (λ n. get_or tables.ids n []) same ∙ sym (range_at tables.ids start end k [] [] found.0) ∙ (bytes_decides (get_or counted k []) id).0 found.1,
          )
    ] refl
