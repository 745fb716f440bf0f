-- The ids of loose objects in several directories.
use Rattle.gix_hash.proofs.Std.{◌≡◌, ◌∙◌, ◌↔◌, ◌||◌, ◌+◌, ◌<◌, ℕ, List, [], ◌∷◌, ◌++◌, Bool, Contains, Decides, ap, arith, bytes_eq, false, false≢true, flat_map, flat_map_more, get_or, if◌then◌else◌, length, list_any, refl, string_bytes, sym, take, take_more, true}
use Rattle.std.proofs.lemmas.List.Folds.{list_any-append}
use Rattle.object_store.proofs.LooseParts.{any_decides, any_is}
use Rattle.directory_store.specs.Stores.{has_id, path_in, paths_in_all}
use Rattle.directory_store.specs.declared.loose.LooseDirectory.{LooseDirectory}

-- lists that have the same members have the same ids
pub same_ids : (all ids : List (List ℕ)) (digits : List ℕ) → ((id : List ℕ) → Contains ids id ↔ Contains all id) → has_id digits ids ≡ has_id digits all
same_ids all ids digits members = any_is all digits (has_id digits ids) (
  λ has. (members digits).0 ((any_decides ids digits).0 has),
  λ contains. (any_decides ids digits).1 ((members digits).1 contains),
)

-- all ids of directories have an id if and only if those of one have it
pub has_any : {X : Type 0} (ids : X → List (List ℕ)) (directories : List X) (digits : List ℕ) → has_id digits (flat_map ids directories) ≡ list_any (λ directory. has_id digits (ids directory)) directories
has_any ids [] digits = refl
has_any ids (directory ∷ directories) digits =
    list_any-append (λ id. bytes_eq id digits) (ids directory) (flat_map ids directories) ∙ ap (λ any. has_id digits (ids directory) || any) (has_any ids directories digits)

-- what is made of the directories up to one, and of one more
pub one_directory : {X : Type 0} (f : X → List (List ℕ)) (directories : List X) (at : ℕ) (directory : X) → at < length directories → directory ≡ get_or directories at directory
    → flat_map f (take at directories) ++ f directory ≡ flat_map f (take (at + 1) directories)
one_directory f directories at directory below is =
    flat_map_more f [] (take at directories) directory ∙ ap (λ x. flat_map f (take at directories ++ x ∷ [])) is ∙ ap (flat_map f) (sym (take_more directories at directory below))

one_path : (has any : Bool) (path : List ℕ) (paths : List (List ℕ)) → Decides any (0 < length paths) → Decides (has || any) (0 < length ((if has then path ∷ [] else []) ++ paths))
one_path true any path paths before = (λ _. omega arith, λ _. refl)
one_path false any path paths before = before

-- an object has a path in directories if and only if one of them has its id
pub has_path : (directories : List LooseDirectory) (digits : List ℕ) → Decides (list_any (λ directory. has_id digits directory.table.ids) directories) (0 < length (paths_in_all directories digits))
has_path [] digits = (λ has. absurd (false≢true has), λ some. absurd (omega (arith, some)))
has_path (directory ∷ directories) digits =
    one_path (has_id digits directory.table.ids) (list_any (λ directory. has_id digits directory.table.ids) directories) (path_in (string_bytes directory.path) digits) (paths_in_all directories digits)
    (has_path directories digits)
