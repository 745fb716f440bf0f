-- Which objects the tree has.
use Rattle.gix_hash.proofs.Std.{◌≡◌, ◌≢◌, ◌∙◌, ◌++◌, ◌∷◌, [], ℕ, ◌<◌, All, Contains, Contains-append_cases, Contains-append_left, Contains-append_right, List, Ok, Some, ap, arith, bytes_decides, codes, drop, false≢true, filter, filter_passes, inl, inr, is_ok, length, length-drop, length-map, ltb-true, map, nat_lt, refl, string_bytes, subst, sym, take, take-append-drop, true, unwrap_or}
use Rattle.std.specs.Global.{Global}
use Rattle.std.specs.Prelude.{String}
use Rattle.std.specs.Path.{path_join}
use Rattle.std.specs.Result.{result_ok}
use Rattle.std.proofs.lemmas.Bool.Decides.{Decides-eqb}
use Rattle.std.proofs.lemmas.Slice.Eq.{ends_is}
use Rattle.std.proofs.lemmas.Str.{IsUtf8-from_ascii, is_utf8-from_IsUtf8}
use Rattle.std.proofs.lemmas.Str.Ascii.{IsAscii-from_all}
use Rattle.gix_hash.specs.Words.{hex_letter, spelling}
use Rattle.gix_hash.specs.declared.Kind.TheVariants.{Sha1}
use Rattle.gix_hash.proofs.SpellingLaws.{spelling-injective}
use Rattle.id_lookup.specs.Words.{IsIndexOf}
use Rattle.id_lookup.proofs.Filters.{contains_kept}
use Rattle.pack_index.specs.Format.{ids_in}
use Rattle.pack_index.specs.Lazy.{HasRightCounts}
use Rattle.pack_index.specs.declared.layout.Layout.TheVariants.{Index}
use Rattle.repositories.specs.Answers.{Answers}
use Rattle.repositories.specs.Walks.{visit_below, with_alternates}
use Rattle.directory_store.specs.Loose.{HasLoose, bytes_asked}
use Rattle.directory_store.specs.Multi.{Multi, multi_path}
use Rattle.directory_store.specs.Opened.{AreObjects, AreRight, HasIndex, HasObject, HaveCounts}
use Rattle.directory_store.specs.Packs.{is_index_name, packs_of, split_names}
use Rattle.directory_store.specs.declared.loose.LooseIds.TheVariants as loose_ids
use Rattle.directory_store.specs.declared.multi.Purpose.{Purpose}
use Rattle.directory_store.proofs.AllBytes.{only_one}
use Rattle.known_tree.specs.Trees.{answers_in, loose_digits, loose_name, names_at}

-- the names at a path
abbrev listed : List ℕ → List (List ℕ)
listed path = split_names (unwrap_or (result_ok (names_at path)) [])

-- a name that is as long as the rest of an id is that of the loose object
long_name : (path name : List ℕ) → Contains (listed path) name → length name ≡ 38 → (path ≡ codes "o/4b") × (name ≡ loose_name)
long_name path name has long = grind (arith, bytes_decides)

-- the elements of a list that pass a test are below the number that it compares with
below : (most : ℕ) (xs : List ℕ) → All (λ x. x < most) (filter (λ x. nat_lt x most) xs)
below most xs k d low = ltb-true _ most (filter_passes (λ x. nat_lt x most) xs k d low)

module _ (index : List ℕ) where
  abbrev at : Answers
  at = answers_in index

  the_index : HasIndex at (codes "o") (codes "o/pack/p.idx")
  unfolding path_join
  the_index = record {
    stem = codes "p";
    is_there = (0, omega arith, refl);
    is_text = is_utf8-from_IsUtf8 (codes "p.idx") (IsUtf8-from_ascii (codes "p.idx") (IsAscii-from_all (codes "p.idx") (below 128 (codes "p.idx"))));
    is_path = refl;
    has_pack = refl;
  }

  index_path : (path : List ℕ) → HasIndex at (codes "o") path → path ≡ codes "o/pack/p.idx"
  unfolding path_join
  index_path path file =
      let name = file.stem ++ codes ".idx" in
      let ends : is_index_name name ≡ true = (ends_is Decides-eqb name (codes ".idx") _ refl).1 file.stem refl in
      file.is_path ∙ ap (path_join (packs_of (codes "o"))) (only_one (codes "p.idx") name (contains_kept is_index_name (listed (codes "o/pack")) name file.is_there ends))

  the_loose : HasObject at Sha1 loose_ids.All (codes "o") loose_digits
  unfolding bytes_asked
  the_loose = inr ((75, omega arith, refl), record { of_kind = (refl, below 16 loose_digits); named = (0, omega arith, refl) })

  loose_is : (digits : List ℕ) → HasLoose at Sha1 (codes "o") digits → digits ≡ loose_digits
  loose_is digits loose =
      let rest = spelling hex_letter (drop 2 digits) in
      let long : length rest ≡ 38 = omega (arith, loose.of_kind.0, length-map (drop 2 digits) hex_letter, length-drop 2 digits) in
      let is = long_name (codes "o" ++ 47 ∷ spelling hex_letter (take 2 digits)) rest loose.named long in
      let front = spelling-injective (take 2 digits) (take 2 loose_digits) (ap (drop 2) is.0) in
      let back = spelling-injective (drop 2 digits) (drop 2 loose_digits) is.1 in
      sym (take-append-drop 2 digits) ∙ (λ i. front i ++ back i)

  -- the fan-out table of its pack index is right
  counts : HasRightCounts Sha1 Index index → HaveCounts at Sha1 (codes "o" ∷ [])
  counts counted directory path has file =
      (index, ap at.bytes (index_path path (subst (λ d. HasIndex at d path) (only_one _ _ has) file)), counted)

  -- it has no multi-pack-index
  no_multi : (multi : Multi) → Contains (map packs_of (codes "o" ∷ [])) multi.packs → at.bytes (multi_path multi) ≢ Ok multi.bytes
  unfolding path_join
  no_multi multi has is =
      let same = only_one (packs_of (codes "o")) multi.packs has in
      false≢true (ap is_ok (subst (λ packs. at.bytes (path_join packs (codes "multi-pack-index")) ≡ Ok multi.bytes) same is))

  -- what is read of it is right
  pub right : HasRightCounts Sha1 Index index → (purpose : Purpose) → AreRight at purpose Sha1 (codes "o" ∷ [])
  right counted purpose = record { counts = counts counted; ids = λ _ multi place is read named. absurd (no_multi multi place is) }

  -- its objects are those of the pack index, and the loose one
  pub objects : (ids : List (List ℕ)) → IsIndexOf Sha1 (ids_in Sha1 index ++ loose_digits ∷ []) ids → AreObjects at Sha1 loose_ids.All (codes "o" ∷ []) ids
  objects ids is = record {
    index = is.index;
    members = λ digits. (
      λ has. (
        codes "o",
        (0, omega arith, refl),
        elim (Contains-append_cases (ids_in Sha1 index) (loose_digits ∷ []) digits ((is.members digits).0 has)) [
          | inl packed ↦ inl (codes "o/pack/p.idx", index, the_index, refl, packed)
          | inr loose ↦ subst (HasObject at Sha1 loose_ids.All (codes "o")) (sym (only_one _ _ loose)) the_loose
        ],
      ),
      λ (directory, has, object). (is.members digits).1 (one_of digits (subst (λ d. HasObject at Sha1 loose_ids.All d digits) (only_one _ _ has) object)),
    );
  }
    where
      one_of : (digits : List ℕ) → HasObject at Sha1 loose_ids.All (codes "o") digits → Contains (ids_in Sha1 index ++ loose_digits ∷ []) digits
      one_of digits (inl (path, bytes, file, is, named)) =
          let same : Ok index ≡ Ok bytes = subst (λ p. at.bytes p ≡ Ok bytes) (index_path path file) is in
          Contains-append_left (ids_in Sha1 index) (loose_digits ∷ []) digits (subst (λ b. Contains (ids_in Sha1 b) digits) (cc same) named)
      one_of digits (inr (asked, loose)) =
          Contains-append_right (ids_in Sha1 index) (loose_digits ∷ []) digits (0, omega arith, sym (loose_is digits loose))

  -- it has no alternates, where the path is this one and the environment adds none
  pub here : (path : List ℕ) (given : List (String Global)) → path ≡ codes "o" → given ≡ [] → with_alternates path (map string_bytes given) at ≡ Some (codes "o" ∷ [], 0)
  unfolding path_join visit_below
  here path given path_is none =
      subst (λ (p : List ℕ × List (String Global)). with_alternates p.0 (map string_bytes p.1) at ≡ Some (codes "o" ∷ [], 0)) (λ i. (sym path_is i, sym none i)) refl
