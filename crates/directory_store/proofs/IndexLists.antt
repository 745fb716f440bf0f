-- The pack indexes in directories of packs, name by name and directory by directory.
use Rattle.gix_hash.proofs.Std.{◌≡◌, ◌∙◌, ◌++◌, ◌∷◌, ◌+◌, ◌<◌, [], Bool, IsSortedBy, List, ap, arith, cond, flat_map_more, get_or-map, length, length-map, map, refl, true, false, ℕ}
use Rattle.std.proofs.lemmas.Slice.Zip.{all_zipped_more}
use Rattle.std.proofs.lemmas.Str.{IsUtf8-from_is_utf8, is_utf8-from_IsUtf8}
use Rattle.std.specs.Path.{path_join}
use Rattle.std.specs.Str.{IsUtf8, is_utf8}
use Rattle.repositories.specs.Answers.{Answers}
use Rattle.directory_store.specs.Packs.{AreIndexes, AreIndexesIn, index_in}

-- a list that is sorted by a test of what f gives is mapped to a sorted one
pub sorted-map : {X Y : Type 0} (f : X → Y) (lt : Y → Y → Bool) (xs : List X) → IsSortedBy (λ a b. lt (f a) (f b)) xs → IsSortedBy lt (map f xs)
sorted-map f lt [] sorted k d low high = absurd (omega arith)
sorted-map f lt (x ∷ xs) sorted k d low high =
    let inside : k + 1 < length (x ∷ xs) = omega (arith, high, length-map (x ∷ xs) f) in
    let here = get_or-map f (x ∷ xs) k x d (omega arith) in
    let next = get_or-map f (x ∷ xs) (k + 1) x d inside in
    rw (here, next) (sorted k x low inside)

-- a name that is UTF-8 is a pack index, and another one is none
pub is_text : (directory name : List ℕ) → IsUtf8 name → index_in directory name ≡ path_join directory name ∷ []
is_text directory name text = ap (λ is. cond is (path_join directory name ∷ []) []) (is_utf8-from_IsUtf8 name text)

pub is_no_text : (directory name : List ℕ) → ¬ (IsUtf8 name) → index_in directory name ≡ []
is_no_text directory name none = go (is_utf8 name) refl
  where
    go : (is : Bool) → is_utf8 name ≡ is → index_in directory name ≡ []
    go true text = absurd (none (IsUtf8-from_is_utf8 name text))
    go false text = ap (λ is. cond is (path_join directory name ∷ []) []) text

-- one directory more
pub one_directory : (at : Answers) (directories old new paths : List (List ℕ)) (directory : List ℕ) → AreIndexes at directories old → AreIndexesIn at directory paths → new ≡ old ++ paths
    → AreIndexes at (directories ++ directory ∷ []) new
one_directory at directories old new paths directory before is more = record {
  found = before.found ++ paths ∷ [];
  each = all_zipped_more (AreIndexesIn at) directories before.found directory paths before.each is;
  all = more ∙ ap (λ l. l ++ paths) before.all ∙ flat_map_more (λ (l : List (List ℕ)). l) [] before.found paths;
}
