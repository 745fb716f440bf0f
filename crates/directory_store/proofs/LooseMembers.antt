-- The loose objects of a store: those of several object directories.
use Rattle.gix_hash.proofs.Std.{◌≡◌, ◌∙◌, ◌↔◌, ℕ, All-contains, Contains, List, flat_map, string_bytes, subst, sym}
use Rattle.gix_hash.specs.Words.{first_byte_of}
use Rattle.gix_hash.specs.declared.Kind.{Kind}
use Rattle.object_store.proofs.LooseParts.{any_decides}
use Rattle.repositories.specs.Answers.{Answers}
use Rattle.directory_store.specs.Loose.{AreLoose, HasAllLoose, HasLoose, bytes_asked}
use Rattle.directory_store.specs.Stores.{AreAllOf, has_id}
use Rattle.directory_store.specs.declared.loose.LooseDirectory.{LooseDirectory}
use Rattle.directory_store.specs.declared.loose.LooseIds.{LooseIds}
use Rattle.directory_store.proofs.DirectoryTables.{has_any}
use Rattle.directory_store.proofs.Members.{flat_from, flat_has, map_from, map_has}

module _ (at : Answers) (kind : Kind) (which : LooseIds) (paths : List (List ℕ)) (directories : List LooseDirectory) (ids : List (List ℕ)) (are : AreLoose at kind which paths directories) (all : AreAllOf directories ids) where
  abbrev path_of : LooseDirectory → List ℕ
  path_of directory = string_bytes directory.path

  abbrev ids_of : LooseDirectory → List (List ℕ)
  ids_of directory = directory.table.ids

  -- an id is one of all if it is one of those of a directory
  same_test : (digits : List ℕ) → has_id digits ids ≡ has_id digits (flat_map ids_of directories)
  same_test digits = all digits ∙ sym (has_any ids_of directories digits)

  pub loose_members : (digits : List ℕ) → Contains ids digits ↔ ((directory : List ℕ) × Contains paths directory × Contains (bytes_asked which) (first_byte_of digits) × HasLoose at kind directory digits)
  loose_members digits = (
    λ has.
        let one = flat_from ids_of directories digits ((any_decides (flat_map ids_of directories) digits).0 (sym (same_test digits) ∙ (any_decides ids digits).1 has)) in
        let is = (All-contains (HasAllLoose at kind which) directories one.0 are.each one.1 digits).0 one.2 in
        (path_of one.0, subst (λ (l : List (List ℕ)). Contains l (path_of one.0)) are.own (map_has path_of directories one.0 one.1), is.0, is.1),
    λ (directory, has, asked, loose).
        let one = map_from path_of directories directory (subst (λ (l : List (List ℕ)). Contains l directory) (sym are.own) has) in
        let is : Contains (ids_of one.0) digits = (All-contains (HasAllLoose at kind which) directories one.0 are.each one.1 digits).1 (asked, subst (λ d. HasLoose at kind d digits) (sym one.2) loose) in
        (any_decides ids digits).0 (same_test digits ∙ (any_decides (flat_map ids_of directories) digits).1 (flat_has ids_of directories one.0 digits one.1 is)),
  )
