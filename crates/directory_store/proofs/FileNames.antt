-- The ids of loose objects by the names of their files.
use Rattle.gix_hash.proofs.Std.{◌≡◌, ◌⊎◌, ◌↔◌, ◌∙◌, ◌++◌, ◌∷◌, ℕ, [], zero, suc, AllZip, Bor, Contains, Contains-append_cases, Contains-append_left, Contains-append_right, List, None, Option, Some, ap, arith, flat_map, flat_map_more, inl, inr, map, map-append, option_to_list, refl, subst, sym}
use Rattle.std.proofs.lemmas.Slice.Zip.{all_zipped_more}
use Rattle.gix_hash.proofs.SpellingLaws.{spelling-injective}
use Rattle.gix_hash.specs.Words.{AreIdDigits, hex_letter, id_digits, spelling}
use Rattle.gix_hash.specs.declared.Kind.{Kind}
use Rattle.gix_hash.specs.declared.ObjectId.{ObjectId}
use Rattle.repositories.specs.Stores.{byte_hex}
use Rattle.directory_store.specs.Stores.{AppendsLooseIds, IsLooseId}
use Rattle.directory_store.proofs.Members.{flat_from, flat_has, map_from, map_has, zip_from, zip_has}

abbrev text_of : Bor (List ℕ) → List ℕ
text_of name = name.now

-- one name more
pub one_name : (kind : Kind) (byte : ℕ) (names : List (Bor (List ℕ))) (name : Bor (List ℕ)) (old ids new : List ObjectId) (id : Option ObjectId)
    → AppendsLooseIds kind byte (map (λ (n : Bor (List ℕ)). n.now) names) old ids → IsLooseId kind byte name.now id → new ≡ ids ++ option_to_list id
    → AppendsLooseIds kind byte (map (λ (n : Bor (List ℕ)). n.now) (names ++ name ∷ [])) old new
one_name kind byte names name old ids new id before is more = record {
  found = before.found ++ id ∷ [];
  each = subst (λ texts. AllZip (IsLooseId kind byte) texts (before.found ++ id ∷ [])) (sym (map-append text_of names (name ∷ [])))
      (all_zipped_more (IsLooseId kind byte) (map text_of names) before.found name.now id before.each is);
  all = more ∙ ap (λ l. l ++ option_to_list id) before.all ∙ flat_map_more option_to_list old before.found id;
}

-- one of some names, in the directory of a first byte, is that of the loose object whose id has these digits
abbrev pub IsNamed : Kind → ℕ → List (List ℕ) → List ℕ → Type 0
IsNamed kind byte names digits = AreIdDigits kind digits × (name : List ℕ) × Contains names name × (byte_hex byte ++ name ≡ spelling hex_letter digits)

only_one : (option : Option ObjectId) (id : ObjectId) → Contains (option_to_list option) id → option ≡ Some id
only_one None id has = absurd (omega (arith, has.1))
only_one (Some other) id (zero, low, is) = ap Some is
only_one (Some other) id (suc k, low, is) = absurd (omega (arith, low))

module _ (kind : Kind) (byte : ℕ) (names : List (List ℕ)) (old new : List ObjectId) (gets : AppendsLooseIds kind byte names old new) (digits : List ℕ) where
  named_from : (id : ObjectId) → Contains (flat_map option_to_list gets.found) id → id_digits id ≡ digits → IsNamed kind byte names digits
  named_from id has is =
      let option = flat_from option_to_list gets.found id has in
      let name = zip_from (IsLooseId kind byte) names gets.found gets.each [] option.0 option.1 in
      let one = subst (IsLooseId kind byte name.0) (only_one option.0 id option.2) name.2 in
      (subst (AreIdDigits kind) is one.2, name.0, name.1, one.1 ∙ ap (spelling hex_letter) is)

  one_has : (name : List ℕ) (option : Option ObjectId) → Contains gets.found option → IsLooseId kind byte name option → AreIdDigits kind digits → byte_hex byte ++ name ≡ spelling hex_letter digits
      → Contains (map id_digits new) digits
  one_has name None there none are spelled = absurd (none digits are spelled)
  one_has name (Some id) there is are spelled =
      let one = flat_has option_to_list gets.found (Some id) id there (0, omega arith, refl) in
      let all = subst (λ (ids : List ObjectId). Contains ids id) (sym gets.all) (Contains-append_right old (flat_map option_to_list gets.found) id one) in
      subst (Contains (map id_digits new)) (spelling-injective (id_digits id) digits (sym is.1 ∙ spelled)) (map_has id_digits new id all)

  -- a list that gets the ids of some names has these
  pub are_got : Contains (map id_digits new) digits ↔ (Contains (map id_digits old) digits ⊎ IsNamed kind byte names digits)
  are_got = (
    λ has.
        let id = map_from id_digits new digits has in
        elim (Contains-append_cases old (flat_map option_to_list gets.found) id.0 (subst (λ (ids : List ObjectId). Contains ids id.0) gets.all id.1)) [
          | inl here ↦ inl (subst (Contains (map id_digits old)) id.2 (map_has id_digits old id.0 here))
          | inr more ↦ inr (named_from id.0 more id.2)
        ],
    λ has. elim has [
      | inl here ↦
          let id = map_from id_digits old digits here in
          let all = subst (λ (ids : List ObjectId). Contains ids id.0) (sym gets.all) (Contains-append_left old (flat_map option_to_list gets.found) id.0 id.1) in
          subst (Contains (map id_digits new)) id.2 (map_has id_digits new id.0 all)
      | inr named ↦ let option = zip_has (IsLooseId kind byte) names gets.found gets.each named.1 None named.2 in one_has named.1 option.0 option.1 option.2 named.0 named.3
    ],
  )
