-- Whether a directory is an object directory, by what directories and files answer.
use Rattle.std.specs.Prelude.{ℕ, ◌/◌, ◌%◌, ◌∷◌, [], zero, suc, Bool, true, false, if◌then◌else◌, Option, Some, List, codes}
use Rattle.std.specs.Path.{path_join}
use Rattle.gix_hash.specs.Words.{hex_letter}
use Rattle.repositories.specs.Answers.{◌>>=◌, Answers}
use Rattle.repositories.specs.Lookups.{is_directory, is_file}

infixr 10 ◌or_else◌
-- whether a test or another one holds; the other one is only made if the first does not hold
abbrev pub ◌or_else◌ : Option Bool → Option Bool → Option Bool
test or_else other = test >>= λ holds. if holds then Some true else other

-- the two hex digits of a byte
abbrev pub byte_hex : ℕ → List ℕ
byte_hex byte = hex_letter (byte / 16) ∷ hex_letter (byte % 16) ∷ []

-- whether a directory has a fan-out directory of a byte below this number; the highest is looked at first
unfoldable pub has_fan_out : ℕ → List ℕ → Answers → Option Bool
has_fan_out zero path at = Some false
has_fan_out (suc byte) path at = is_directory (path_join path (byte_hex byte)) at or_else has_fan_out byte path at

-- whether a directory is an object directory: it has the directory pack, the file info/alternates or a fan-out directory
unfoldable pub is_store : List ℕ → Answers → Option Bool
is_store path at = is_directory (path_join path (codes "pack")) at or_else is_file (path_join path (codes "info/alternates")) at or_else has_fan_out 256 path at
