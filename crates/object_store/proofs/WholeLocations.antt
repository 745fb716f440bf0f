-- The locations of an object in a store whose fan-out tables are right.
use Rattle.gix_hash.proofs.Std.{◌≡◌, ℕ, ◌<◌, true, Option, None, Some, List, ◌++◌, length, map, option_map, refl, sym, ap, ◌∙◌, arith, ext_get_or, get_or, get_or-map, length-map}
use Rattle.std.proofs.lemmas.Slice.Zip.{AllZip-long}
use Rattle.std.specs.Option.{option_and_then}
use Rattle.id_lookup.specs.Words.{first_byte_of}
use Rattle.pack_index.specs.Lazy.{HaveRightCounts, IndexView, Tables, position_of}
use Rattle.pack_index.proofs.LookedUp.{position_whole}
use Rattle.object_store.specs.Stores.{AreLocations, HasOffsetOf, Holds, StoreView, in_packs, locations_of, loose_at, offset_of}
use Rattle.object_store.specs.declared.locations.Location.{Location}
use Rattle.object_store.proofs.Held.{as_many, known_at, no_tables}
use Rattle.object_store.proofs.Located.{IsOffsetAt}
use Rattle.object_store.proofs.Zipped.{zipped_at}

-- the offset of the first counted id that is this one is that of the first id that is
offset_is : (tables : Tables) (id : List ℕ) → HaveRightCounts tables → first_byte_of id < 256 → (offset : Option ℕ) → HasOffsetOf id offset tables → offset ≡ offset_of id tables
offset_is tables id counts small offset has =
    sym (ap (option_and_then tables.offset) (position_whole tables id counts small has.0) ∙ by (position_of id tables) offset has.1)
  where
    by : (at offset : Option ℕ) → option_map tables.offset at ≡ option_map Some offset → option_and_then tables.offset at ≡ offset
    by None None is = refl
    by None (Some offset) is = cc
    by (Some at) None is = cc
    by (Some at) (Some offset) is = cc

-- so the locations are those by the tables of all pack indexes
module _ (view : StoreView) (whole : List (List ℕ)) (id : List ℕ) (locations : List Location) (h : Holds view whole) (are : AreLocations view id locations) where
  offsets_are : are.offsets ≡ map (offset_of id) h.are_known.tables
  offsets_are =
      let many = as_many view.packs h.are_known.tables h.are_known.known in
      let long : length are.offsets ≡ length view.packs = AllZip-long (IsOffsetAt id) view.packs are.offsets are.read in
      ext_get_or None are.offsets (map (offset_of id) h.are_known.tables) (omega (arith, long, many, length-map h.are_known.tables (offset_of id))) (λ k low.
      let p : IndexView = record { kind = view.kind; count = 0; tables = None; can_fail = true } in
      let inside : k < length view.packs = omega (arith, low, long) in
      let within : k < length h.are_known.tables = omega (arith, inside, many) in
      let tables = get_or h.are_known.tables k no_tables in
      let has = zipped_at (IsOffsetAt id) view.packs are.offsets are.read k p None inside tables (known_at view.packs h.are_known.tables h.are_known.known k p inside) in
      offset_is tables id (h.are_known.are_counted k no_tables within) are.small (get_or are.offsets k None) has ∙ sym (get_or-map (offset_of id) h.are_known.tables k no_tables None within))

  pub whole_locations : locations ≡ locations_of id h.are_known.tables view.loose
  whole_locations = are.all ∙ ap (λ (offsets : List (Option ℕ)). in_packs 0 offsets ++ loose_at id view.loose) offsets_are
