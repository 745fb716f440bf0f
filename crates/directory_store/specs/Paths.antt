-- The path of a loose object.
use Rattle.std.specs.Prelude.{◌++◌, ◌∷◌, ℕ, List, take, drop}
use Rattle.gix_hash.specs.Words.{hex_letter, spelling}

-- the first two digits of an id, a slash and the others
abbrev pub loose_path : List ℕ → List ℕ
loose_path digits = spelling hex_letter (take 2 digits) ++ 47 ∷ spelling hex_letter (drop 2 digits)
