-- The pack indexes of several object directories: by the names in their directories of packs.
use Rattle.gix_hash.proofs.Std.{◌≡◌, ◌∙◌, ◌++◌, ◌-◌, ◌∷◌, [], Bool, Contains, Contains-permutation, IsPermutation-sym, IsTrue, List, ap, append_assoc, arith, codes, false, false≢true, filter, flat_map, if◌then◌else◌, length, map, refl, subst, sym, take, true, zero, suc, ℕ, ◌==◌}
use Rattle.std.proofs.lemmas.Bool.Decides.{Decides-eqb}
use Rattle.std.proofs.lemmas.Slice.Eq.{ends_is}
use Rattle.std.specs.Path.{path_join, slash, with_separator}
use Rattle.std.specs.Str.{is_utf8}
use Rattle.id_lookup.proofs.Filters.{contains_had, contains_kept, kept_passes}
use Rattle.repositories.specs.Answers.{Answers}
use Rattle.directory_store.specs.Loose.{listed_in}
use Rattle.directory_store.specs.Opened.{HasIndex}
use Rattle.directory_store.specs.Packs.{AreIndexesIn, ArePacks, has_pack, index_in, is_found_file, is_index_name, packs_of, split_names}
use Rattle.directory_store.specs.Stores.{index_path}
use Rattle.directory_store.specs.declared.pack_paths.PackPaths.{PackPaths}
use Rattle.directory_store.proofs.Listed.{listed_of}
use Rattle.directory_store.proofs.Members.{flat_from, flat_has, map_from, map_has, zip_from, zip_has}

-- a name of a pack index has a stem
name_ends : (name : List ℕ) → IsTrue (is_index_name name) → (stem : List ℕ) × (name ≡ stem ++ codes ".idx")
name_ends name is = (take (length name - length (codes ".idx")) name, (ends_is Decides-eqb name (codes ".idx") (is_index_name name) refl).0 is)

stem_ends : (stem : List ℕ) → IsTrue (is_index_name (stem ++ codes ".idx"))
stem_ends stem = (ends_is Decides-eqb (stem ++ codes ".idx") (codes ".idx") (is_index_name (stem ++ codes ".idx")) refl).1 stem refl

-- the paths of a pack index and of its pack begin alike
pub record BeginsBoth (directory stem : List ℕ) : Type 0 where
  pub front : List ℕ
  pub index : path_join directory (stem ++ codes ".idx") ≡ front ++ codes ".idx"
  pub pack : path_join directory (stem ++ codes ".pack") ≡ front ++ codes ".pack"

joined : (absolute : Bool) (base stem end : List ℕ) → (if absolute then stem ++ end else base ++ (stem ++ end)) ≡ (if absolute then stem else base ++ stem) ++ end
joined true base stem end = refl
joined false base stem end = sym (append_assoc base stem end)

both_begin : (directory stem : List ℕ) → BeginsBoth directory stem
unfolding path_join
both_begin directory [] = record { front = with_separator directory; index = refl; pack = refl }
both_begin directory (x ∷ stem) = record {
  front = if x == slash then x ∷ stem else with_separator directory ++ x ∷ stem;
  index = joined (x == slash) (with_separator directory) (x ∷ stem) (codes ".idx");
  pack = joined (x == slash) (with_separator directory) (x ∷ stem) (codes ".pack");
}

-- what is there is the path of a name that is UTF-8
one_from : (is : Bool) (made path : List ℕ) → Contains (if is then made ∷ [] else []) path → IsTrue is × (path ≡ made)
one_from true made path (zero, low, is) = (refl, sym is)
one_from true made path (suc k, low, is) = absurd (omega (arith, low))
one_from false made path (k, low, is) = absurd (omega (arith, low))

one_has : (is : Bool) (made : List ℕ) → IsTrue is → Contains (if is then made ∷ [] else []) made
one_has true made is = (0, omega arith, refl)
one_has false made is = absurd (false≢true is)

-- in the directories of packs of several object directories
module _ (at : Answers) (directories : List (List ℕ)) (packs : List PackPaths) (are : ArePacks at (map packs_of directories) packs) where
  listed_is : (directory : List ℕ) (paths : List (List ℕ)) → (are : AreIndexesIn at directory paths) → listed_in directory at ≡ are.names
  listed_is directory paths are = sym (listed_of directory are.names at are.listed)

  -- the pack of a pack index is there if and only if that is at its path
  pack_is : (directory stem path : List ℕ) (pack : PackPaths) → index_path pack ≡ path → path ≡ path_join directory (stem ++ codes ".idx")
      → has_pack at pack ≡ is_found_file (at.look (path_join directory (stem ++ codes ".pack")))
  pack_is directory stem path pack same is =
      let both = both_begin directory stem in
      ap (λ (p : List ℕ). is_found_file (at.look p)) (pack.beside both.front (same ∙ is ∙ both.index) ∙ sym both.pack)

  pub index_from : (path : List ℕ) → Contains (map index_path packs) path → (directory : List ℕ) × Contains directories directory × HasIndex at directory path
  index_from path has =
      let pack = map_from index_path packs path has in
      let kept : Contains (filter (has_pack at) are.indexes) pack.0 = subst (λ (l : List PackPaths). Contains l pack.0) are.all pack.1 in
      let there : Contains are.indexes pack.0 = contains_had (has_pack at) are.indexes pack.0 kept in
      let listed : Contains (map index_path are.indexes) path = subst (Contains (map index_path are.indexes)) pack.2 (map_has index_path are.indexes pack.0 there) in
      let paths = flat_from (λ (l : List (List ℕ)). l) are.listed.found path (subst (λ (l : List (List ℕ)). Contains l path) are.listed.all listed) in
      let place = zip_from (AreIndexesIn at) (map packs_of directories) are.listed.found are.listed.each [] paths.0 paths.1 in
      let directory = map_from packs_of directories place.0 place.1 in
      let indexes : AreIndexesIn at (packs_of directory.0) paths.0 = subst (λ (d : List ℕ). AreIndexesIn at d paths.0) (sym directory.2) place.2 in
      let found = flat_from (index_in (packs_of directory.0)) indexes.sorted path (subst (λ (l : List (List ℕ)). Contains l path) indexes.all paths.2) in
      let name = found.0 in
      let one = one_from (is_utf8 name) (path_join (packs_of directory.0) name) path found.2 in
      let all = split_names indexes.names in
      let chosen = Contains-permutation indexes.sorted (filter is_index_name all) name (IsPermutation-sym _ _ indexes.chosen.same) found.1 in
      let stem = name_ends name (kept_passes is_index_name all name chosen) in
      let is : path ≡ path_join (packs_of directory.0) (stem.0 ++ codes ".idx") = one.1 ∙ ap (path_join (packs_of directory.0)) stem.1 in (
        directory.0,
        directory.1,
        record {
          stem = stem.0;
          is_there = subst (λ (names : List ℕ). Contains (split_names names) (stem.0 ++ codes ".idx")) (sym (listed_is (packs_of directory.0) paths.0 indexes))
              (subst (Contains all) stem.1 (contains_had is_index_name all name chosen));
          is_text = subst (λ (n : List ℕ). IsTrue (is_utf8 n)) stem.1 one.0;
          is_path = is;
          has_pack = sym (pack_is (packs_of directory.0) stem.0 path pack.0 pack.2 is) ∙ kept_passes (has_pack at) are.indexes pack.0 kept;
        },
      )

  pub index_has : (directory path : List ℕ) → Contains directories directory → HasIndex at directory path → Contains (map index_path packs) path
  index_has directory path has index =
      let name = index.stem ++ codes ".idx" in
      let place = zip_has (AreIndexesIn at) (map packs_of directories) are.listed.found are.listed.each (packs_of directory) [] (map_has packs_of directories directory has) in
      let indexes = place.2 in
      let all = split_names indexes.names in
      let there : Contains all name = subst (λ (names : List ℕ). Contains (split_names names) name) (listed_is (packs_of directory) place.0 indexes) index.is_there in
      let chosen = Contains-permutation (filter is_index_name all) indexes.sorted name indexes.chosen.same (contains_kept is_index_name all name there (stem_ends index.stem)) in
      let made : List ℕ = path_join (packs_of directory) name in
      let one = flat_has (index_in (packs_of directory)) indexes.sorted name made chosen (one_has (is_utf8 name) made index.is_text) in
      let here : Contains place.0 path = subst (λ (l : List (List ℕ)). Contains l path) (sym indexes.all) (subst (Contains (flat_map (index_in (packs_of directory)) indexes.sorted)) (sym index.is_path) one) in
      let listed : Contains (map index_path are.indexes) path =
      subst (λ (l : List (List ℕ)). Contains l path) (sym are.listed.all) (flat_has (λ (l : List (List ℕ)). l) are.listed.found place.0 path place.1 here) in
      let pack = map_from index_path are.indexes path listed in
      let kept = contains_kept (has_pack at) are.indexes pack.0 pack.1 (pack_is (packs_of directory) index.stem path pack.0 pack.2 index.is_path ∙ index.has_pack) in
      subst (Contains (map index_path packs)) pack.2 (map_has index_path packs pack.0 (subst (λ (l : List PackPaths). Contains l pack.0) (sym are.all) kept))
