-- The parts of a line, one after the other.
use Rattle.gix_hash.proofs.Std.{◌≡◌, ℕ, List, [], ◌∷◌, ◌++◌, append_assoc}
use Rattle.packtool_commands.specs.Files.{line_of_object}
use Rattle.id_lookup.specs.Words.{hex_letter, id_digits, spelling}
use Rattle.object_store.specs.declared.abbreviations.AbbreviatedId.{AbbreviatedId}
use Rattle.packtool_commands.specs.Stores.{abbreviated_line}

-- parts that are added one after the other are a line, after what was there before
pub line_parts : (front offset id crc : List ℕ)
    → front ++ offset ++ 32 ∷ [] ++ id ++ 32 ∷ 40 ∷ [] ++ crc ++ 41 ∷ 10 ∷ [] ≡ front ++ line_of_object offset id crc
unfolding line_of_object
line_parts front offset id crc = simp append_assoc

-- and of an abbreviation
pub abbreviation_parts : (front : List ℕ) (n : AbbreviatedId)
    → front ++ spelling hex_letter n.abbreviation.digits ++ 32 ∷ [] ++ spelling hex_letter (id_digits n.id) ++ 10 ∷ [] ≡ front ++ abbreviated_line n
unfolding abbreviated_line
abbreviation_parts front n = simp append_assoc
