-- Paths that are added to a list and to a set.
use Rattle.gix_hash.proofs.Std.{◌≡◌, ◌∙◌, ◌++◌, ◌∷◌, ◌||◌, [], Bool, List, bytes_eq, cond, false, list_any, map, map-append, refl, string_bytes, true, ℕ}
use Rattle.std.proofs.lemmas.List.Folds.{list_any-append}
use Rattle.std.proofs.lemmas.Map.Text.{btree_set_updates_text}
use Rattle.std.specs.BTreeSet.{BTreeSet, Updates, contains_text}
use Rattle.std.specs.Global.{Global}
use Rattle.std.specs.Prelude.{String}
use Rattle.std.specs.String.{string_cmp}

or_last : (b rest : Bool) → cond b true rest ≡ rest || (b || false)
or_last true true = refl
or_last true false = refl
or_last false true = refl
or_last false false = refl

-- the set has one path more, as the list does
pub contains_more : (old new : BTreeSet (String Global)) (added path : String Global) (paths more : List (String Global)) → Updates string_cmp old new added true
    → string_bytes added ≡ string_bytes path → more ≡ paths ++ path ∷ []
    → ((p : List ℕ) → contains_text old p ≡ list_any (λ other. bytes_eq other p) (map string_bytes paths))
    → (p : List ℕ) → contains_text new p ≡ list_any (λ other. bytes_eq other p) (map string_bytes more)
contains_more old new added path paths more updates same list was p =
    btree_set_updates_text (string_bytes added) old new true updates p ∙ rw (list, map-append, list_any-append, was p, same) (or_last _ _)
