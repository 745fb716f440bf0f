-- Which locations an object has.
use Rattle.gix_hash.proofs.Std.{◌≡◌, ℕ, zero, suc, ◌+◌, ◌<◌, inl, inr, Bool, true, false, cond, Option, None, Some, List, [], ◌∷◌, length, get_or, map, refl, sym, ap, ◌∙◌, subst, arith, ◌↔◌, bytes_eq, Contains, list_any, position, get_or-map, length-map, Contains-append_cases, Contains-append_left, Contains-append_right, none-some, same_Some}
use Rattle.std.specs.Option.{option_and_then}
use Rattle.object_store.specs.Stores.{in_packs, locations_of, offset_of}
use Rattle.object_store.specs.declared.locations.Location.{Location}
use Rattle.object_store.specs.declared.locations.Location.TheVariants.{Packed, Loose}
use Rattle.object_store.proofs.LooseParts.{any_decides}
use Rattle.pack_index.specs.Format.{IsFirstIndexOf}
use Rattle.pack_index.specs.Lazy.{Tables}
use Rattle.pack_index.proofs.LookedUp.{first_position, position_first}

-- the offset that is found is that of the first position of the id
has_offset : (tables : Tables) (id : List ℕ) (offset : ℕ) → offset_of id tables ≡ Some offset → (at : ℕ) × IsFirstIndexOf tables.ids id at × (tables.offset at ≡ Some offset)
has_offset tables id offset = elim (position (λ name. bytes_eq name id) tables.ids) as (λ o. o ≡ position (λ name. bytes_eq name id) tables.ids → option_and_then tables.offset o ≡ Some offset
    → (at : ℕ) × IsFirstIndexOf tables.ids id at × (tables.offset at ≡ Some offset)) [
      | None ↦ λ was none. absurd (none-some offset none)
      | Some at ↦ λ was some. (at, position_first id tables.ids (Some at) was, some)
    ] refl

contains_one : {X : Type 0} (x y : X) → Contains (x ∷ []) y → x ≡ y
contains_one x y (zero, low, is) = is
contains_one x y (suc k, low, is) = absurd (omega (arith, low))

-- the locations in packs are those at their offsets
packed_of : (n : ℕ) (offsets : List (Option ℕ)) (location : Location) → Contains (in_packs n offsets) location
    → (k : ℕ) × (offset : ℕ) × (k < length offsets) × (get_or offsets k None ≡ Some offset) × (Packed (n + k) offset ≡ location)
packed_of n [] location (k, low, is) = absurd (omega (arith, low))
packed_of n (None ∷ offsets) location has =
    let rest = packed_of (suc n) offsets location has in
    let same : n + suc rest.0 ≡ suc n + rest.0 = omega arith in
    (suc rest.0, rest.1, omega (arith, rest.2), rest.3, ap (λ m. Packed m rest.1) same ∙ rest.4)
packed_of n (Some offset ∷ offsets) location (zero, low, is) =
    let same : n + 0 ≡ n = omega arith in (0, offset, omega arith, refl, ap (λ m. Packed m offset) same ∙ is)
packed_of n (Some offset ∷ offsets) location (suc j, low, is) =
    let rest = packed_of (suc n) offsets location (j, omega (arith, low), is) in
    let same : n + suc rest.0 ≡ suc n + rest.0 = omega arith in
    (suc rest.0, rest.1, omega (arith, rest.2), rest.3, ap (λ m. Packed m rest.1) same ∙ rest.4)

next : (n : ℕ) (offsets : List (Option ℕ)) (k offset : ℕ) → Contains (in_packs (suc n) offsets) (Packed (suc n + k) offset) → Contains (in_packs (suc n) offsets) (Packed (n + suc k) offset)
next n offsets k offset = let same : suc n + k ≡ n + suc k = omega arith in subst (λ m. Contains (in_packs (suc n) offsets) (Packed m offset)) same

has_packed : (n : ℕ) (offsets : List (Option ℕ)) (k offset : ℕ) → k < length offsets → get_or offsets k None ≡ Some offset → Contains (in_packs n offsets) (Packed (n + k) offset)
has_packed n [] k offset low found = absurd (omega (arith, low))
has_packed n (None ∷ offsets) zero offset low found = absurd (none-some offset found)
has_packed n (None ∷ offsets) (suc k) offset low found = next n offsets k offset (has_packed (suc n) offsets k offset (omega (arith, low)) found)
has_packed n (Some first ∷ offsets) zero offset low found =
    let same : n ≡ n + 0 = omega arith in (0, omega arith, λ i. Packed (same i) (same_Some first offset found i))
has_packed n (Some first ∷ offsets) (suc k) offset low found =
    let there = next n offsets k offset (has_packed (suc n) offsets k offset (omega (arith, low)) found) in (suc there.0, omega (arith, there.1), there.2)

abbrev pack_of : Location → ℕ
pack_of (Packed pack offset) = pack
pack_of Loose = 0

abbrev offset_in_pack : Location → ℕ
offset_in_pack (Packed pack offset) = offset
offset_in_pack Loose = 0

module _ (id : List ℕ) (indexes : List Tables) (loose_ids : List (List ℕ)) where
  abbrev offsets : List (Option ℕ)
  offsets = map (offset_of id) indexes

  abbrev front : List Location
  front = in_packs 0 offsets

  abbrev is_loose : Bool
  is_loose = list_any (λ other. bytes_eq other id) loose_ids

  abbrev last : List Location
  last = cond is_loose (Loose ∷ []) []

  in_last : (location : Location) → Contains last location → (is_loose ≡ true) × (Loose ≡ location)
  in_last location = elim is_loose as (λ b. Contains (cond b (Loose ∷ []) []) location → (b ≡ true) × (Loose ≡ location)) [
    | true ↦ λ has. (refl, contains_one Loose location has)
    | false ↦ λ (k, low, is). absurd (omega (arith, low))
  ]

  pub packed_location : (pack offset : ℕ) (default : Tables) → Contains (locations_of id indexes loose_ids) (Packed pack offset)
      ↔ ((pack < length indexes) × (at : ℕ) × IsFirstIndexOf (get_or indexes pack default).ids id at × ((get_or indexes pack default).offset at ≡ Some offset))
  packed_location pack offset default = (
    λ has. elim (Contains-append_cases front last (Packed pack offset) has) [
      | inl packed ↦
          let is = packed_of 0 offsets (Packed pack offset) packed in
          let same : is.0 ≡ pack = omega (arith, ap pack_of is.4) in
          let low : pack < length indexes = omega (arith, same, is.2, length-map indexes (offset_of id)) in
          let found : offset_of id (get_or indexes pack default) ≡ Some offset =
          sym (get_or-map (offset_of id) indexes pack default None low) ∙ ap (λ n. get_or offsets n None) (sym same) ∙ is.3
          ∙ ap (λ (location : Location). Some (offset_in_pack location)) is.4 in
          let has = has_offset (get_or indexes pack default) id offset found in (low, has.0, has.1, has.2)
      | inr loose ↦ let is = (in_last (Packed pack offset) loose).1 in cc
    ],
    λ is.
        let found : offset_of id (get_or indexes pack default) ≡ Some offset =
        ap (option_and_then (get_or indexes pack default).offset) (sym (first_position id (get_or indexes pack default).ids (Some is.1) is.2)) ∙ is.3 in
        let low : pack < length offsets = omega (arith, is.0, length-map indexes (offset_of id)) in
        let there : get_or offsets pack None ≡ Some offset = get_or-map (offset_of id) indexes pack default None is.0 ∙ found in
        let here : 0 + pack ≡ pack = omega arith in
        Contains-append_left front last (Packed pack offset) (subst (λ n. Contains front (Packed n offset)) here (has_packed 0 offsets pack offset low there)),
  )

  pub loose_location : Contains (locations_of id indexes loose_ids) Loose ↔ Contains loose_ids id
  loose_location = (
    λ has. elim (Contains-append_cases front last Loose has) [
      | inl packed ↦ let is = (packed_of 0 offsets Loose packed).4 in cc
      | inr loose ↦ (any_decides loose_ids id).0 (in_last Loose loose).0
    ],
    λ has. Contains-append_right front last Loose (subst (λ b. Contains (cond b (Loose ∷ []) []) Loose) (sym ((any_decides loose_ids id).1 has)) (0, omega arith, refl)),
  )
