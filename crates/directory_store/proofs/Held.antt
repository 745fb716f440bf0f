-- What a store has that was opened: by what directories and files answer.
use Rattle.gix_hash.proofs.Std.{◌≡◌, ◌∙◌, ◌++◌, ◌∷◌, ◌↔◌, [], ℕ, All, All-append, All-cons, All-contains, All-head, All-map, All-nil, All-tail, Contains, Contains-append_cases, Contains-append_left, Contains-append_right, Contains-get_or, List, Ok, Some, ap, arith, flat_map, get_or, inl, inr, length, map, map-append, map-map, option_map, refl, subst, sym, unwrap_or}
use Rattle.std.specs.Result.{result_ok}
use Rattle.gix_hash.specs.Words.{first_byte_of}
use Rattle.gix_hash.specs.declared.Kind.{Kind}
use Rattle.object_store.specs.Stores.{AreKnown, StoreView, ids_held}
use Rattle.pack_index.specs.Lazy.{HasRightCounts, HaveRightCounts, IndexView, LazyIndex, Tables, ids_at, seen, tables_of}
use Rattle.pack_index.specs.declared.layout.Layout.TheVariants.{Index}
use Rattle.repositories.specs.Answers.{Answers}
use Rattle.directory_store.specs.Loose.{HasLoose, bytes_asked}
use Rattle.directory_store.specs.Multi.{AreFor, AreRead, HasIdsOf, IsMultiOf, Multi, multi_tables}
use Rattle.directory_store.specs.Opened.{AreRight, HasIndex, HasObject, IsObject}
use Rattle.directory_store.specs.Packs.{ArePacks, bytes_at, packs_of, tables_at, tables_seen}
use Rattle.directory_store.specs.Stores.{index_path}
use Rattle.directory_store.specs.declared.loose.LooseIds.{LooseIds}
use Rattle.directory_store.specs.declared.multi.Purpose.{Purpose}
use Rattle.directory_store.specs.declared.multi.Purpose.TheVariants.{Ids, Locations}
use Rattle.directory_store.specs.declared.pack_paths.PackPaths.{PackPaths}
use Rattle.directory_store.proofs.Members.{flat_from, flat_has, map_from, map_has}
use Rattle.directory_store.proofs.Packed.{index_from, index_has}

module _ (at : Answers) (kind : Kind) where
  -- the fan-out table of the pack index at a path is right
  abbrev IsCounted : List ℕ → Type 0
  IsCounted path = (bytes : List ℕ) × (at.bytes path ≡ Ok bytes) × HasRightCounts kind Index bytes

  abbrev tables_there : List ℕ → Tables
  tables_there path = tables_of kind Index (unwrap_or (bytes_at at path) [])

  tables_are : (path bytes : List ℕ) → at.bytes path ≡ Ok bytes → tables_there path ≡ tables_of kind Index bytes
  tables_are path bytes is = ap (λ answer. tables_of kind Index (unwrap_or (result_ok answer) [])) is

  -- the tables of pack indexes that are read from such files are known
  tables_known : (paths : List (List ℕ)) → All IsCounted paths → map (tables_at at kind) paths ≡ map Some (map tables_there paths)
  tables_known [] are = refl
  tables_known (path ∷ paths) are =
      let one = All-head IsCounted path paths are in
      let here : tables_at at kind path ≡ Some (tables_there path) =
      ap (λ answer. option_map (tables_of kind Index) (result_ok answer)) one.1 ∙ ap Some (sym (tables_are path one.0 one.1)) in
      let rest = tables_known paths (All-tail IsCounted path paths are) in
      λ i. here i ∷ rest i

  are_all : (paths : List (List ℕ)) → All IsCounted paths → All HaveRightCounts (map tables_there paths)
  are_all [] are = All-nil HaveRightCounts
  are_all (path ∷ paths) are =
      let one = All-head IsCounted path paths are in
      All-cons HaveRightCounts (tables_there path) (map tables_there paths) (subst HaveRightCounts (sym (tables_are path one.0 one.1)) one.2)
      (are_all paths (All-tail IsCounted path paths are))

  -- what is read of multi-pack-indexes is right, if any is read
  multis_right : (purpose : Purpose) (directories listed : List (List ℕ)) (multis : List Multi) → (purpose ≡ Ids → (multi : Multi) → IsMultiOf at kind directories listed multi → HasIdsOf at kind multi)
      → AreFor purpose multis → All (IsMultiOf at kind directories listed) multis → All (HasIdsOf at kind) multis
  multis_right Ids directories listed multis right chosen are k d low = right refl (get_or multis k d) (are k d low)
  multis_right Locations directories listed multis right chosen are k d low = absurd (omega (arith, low, ap length chosen))

module _ (at : Answers) (purpose : Purpose) (which : LooseIds) (view : StoreView) (directories : List (List ℕ)) (packs : List PackPaths) (listed : ArePacks at (map packs_of directories) packs)
    (indexes : List LazyIndex) (are_seen : view.packs ≡ map seen indexes)
    (read : AreRead at purpose view.kind (map packs_of directories) (map index_path packs) view.paths (tables_seen indexes))
    (loose : (digits : List ℕ) → Contains view.loose digits ↔ ((directory : List ℕ) × Contains directories directory × Contains (bytes_asked which) (first_byte_of digits) × HasLoose at view.kind directory digits))
    (right : AreRight at purpose view.kind directories) where
  abbrev of_multis : List Tables
  of_multis = map (multi_tables view.kind) read.multis

  abbrev of_left : List Tables
  of_left = map (tables_there at view.kind) read.left

  abbrev tables : List Tables
  tables = of_multis ++ of_left

  abbrev ids_of : Tables → List (List ℕ)
  ids_of one = one.ids

  abbrev packed : List (List ℕ)
  packed = flat_map ids_of tables

  -- the path of a pack index that is listed is one in one of the directories
  place_of : (path : List ℕ) → Contains (map index_path packs) path → (directory : List ℕ) × Contains directories directory × HasIndex at directory path
  place_of = index_from at directories packs listed

  all_counted : All (IsCounted at view.kind) read.left
  all_counted k d low =
      let path = get_or read.left k d in
      let place = place_of path (read.covered.from path (Contains-get_or read.left k d low)) in
      right.counts place.0 path place.1 place.2

  all_right : All (HasIdsOf at view.kind) read.multis
  all_right = multis_right at view.kind purpose (map packs_of directories) (map index_path packs) read.multis (λ is multi one.
      right.ids is multi one.place one.is_there one.is_read (λ path named. place_of path (one.are_listed path named))) read.chosen read.covered.each

  right_of : (multi : Multi) → Contains read.multis multi → HasIdsOf at view.kind multi
  right_of multi = All-contains (HasIdsOf at view.kind) read.multis multi all_right

  packed_from : (id : List ℕ) → Contains packed id → (directory : List ℕ) × Contains directories directory × HasObject at view.kind which directory id
  packed_from id has =
      let one = flat_from ids_of tables id has in
      elim (Contains-append_cases of_multis of_left one.0 one.1) [
        | inl there ↦
            let multi = map_from (multi_tables view.kind) read.multis one.0 there in
            let file = ((right_of multi.0 multi.1).same id).0 (subst (λ (t : Tables). Contains t.ids id) (sym multi.2) one.2) in
            let is = All-contains (IsMultiOf at view.kind (map packs_of directories) (map index_path packs)) read.multis multi.0 read.covered.each multi.1 in
            let place = place_of file.0 (is.are_listed file.0 file.2) in
            (place.0, place.1, inl (file.0, file.1, place.2, file.3, file.4))
        | inr there ↦
            let path = map_from (tables_there at view.kind) read.left one.0 there in
            let place = place_of path.0 (read.covered.from path.0 path.1) in
            let file = right.counts place.0 path.0 place.1 place.2 in
            let same : one.0 ≡ tables_of view.kind Index file.0 = sym path.2 ∙ tables_are at view.kind path.0 file.0 file.1 in
            (place.0, place.1, inl (path.0, file.0, place.2, file.1, subst (λ (t : Tables). Contains t.ids id) same one.2))
      ]

  packed_has : (id directory path bytes : List ℕ) → Contains directories directory → HasIndex at directory path → at.bytes path ≡ Ok bytes → Contains (ids_at view.kind Index bytes) id → Contains packed id
  packed_has id directory path bytes has index is name =
      elim (read.covered.all path (index_has at directories packs listed directory path has index)) [
        | inl left ↦
            flat_has ids_of tables (tables_there at view.kind path) id
            (Contains-append_right of_multis of_left (tables_there at view.kind path) (map_has (tables_there at view.kind) read.left path left))
            (subst (λ (t : Tables). Contains t.ids id) (sym (tables_are at view.kind path bytes is)) name)
        | inr one ↦
            flat_has ids_of tables (multi_tables view.kind one.0) id
            (Contains-append_left of_multis of_left (multi_tables view.kind one.0) (map_has (multi_tables view.kind) read.multis one.0 one.1))
            (((right_of one.0 one.1).same id).1 (path, bytes, one.2, is, name))
      ]

  pub are_known : AreKnown view
  are_known = record {
    tables = tables;
    known = ap (map (λ (pack : IndexView). pack.tables)) are_seen ∙ map-map (λ (pack : IndexView). pack.tables) seen indexes ∙ read.are_tables
        ∙ (λ i. sym (map-map Some (multi_tables view.kind) read.multis) i ++ tables_known at view.kind read.left all_counted i) ∙ sym (map-append Some of_multis of_left);
    are_counted = All-append HaveRightCounts of_multis of_left (All-map HaveRightCounts (multi_tables view.kind) read.multis (λ k d low. (all_right k d low).counted))
        (are_all at view.kind read.left all_counted);
  }

  pub ids_are : (id : List ℕ) → Contains (ids_held view are_known) id ↔ IsObject at view.kind which directories id
  unfolding are_known
  ids_are id = (
    λ has. elim (Contains-append_cases packed view.loose id has) [
      | inl packs ↦ packed_from id packs
      | inr object ↦ let place = (loose id).0 object in (place.0, place.1, inr (place.2, place.3))
    ],
    λ place. elim place.2 [
      | inl file ↦ Contains-append_left packed view.loose id (packed_has id place.0 file.0 file.1 place.1 file.2 file.3 file.4)
      | inr object ↦ Contains-append_right packed view.loose id ((loose id).1 (place.0, place.1, object.0, object.1))
    ],
  )
