-- What a typed abbreviation means.
use Rattle.std.specs.Prelude.{◌≡◌, ◌≤◌, ℕ, List, [], ◌∷◌, Ok, length, map}
use Rattle.gix_hash.specs.Words.{KindDigits, hex_letter, id_digits, id_kind, prefix_read_in}
use Rattle.gix_hash.specs.declared.Kind.{Kind}
use Rattle.id_lookup.specs.Words.{matches}
use Rattle.callers.specs.declared.abbreviations.Resolved.{Resolved}
use Rattle.callers.specs.declared.abbreviations.Resolved.TheVariants.{Unknown, Id, Ambiguous}

-- the result contains the ids that were found, each given by its digits
abbrev pub Means : Kind → List (List ℕ) → Resolved → Type 0
Means kind found Unknown = found ≡ []
Means kind found (Id id) = (found ≡ id_digits id ∷ []) × (id_kind id ≡ kind)
Means kind found (Ambiguous ids) = (found ≡ map id_digits ids.now) × (2 ≤ length ids.now)

-- the text reads as a prefix, and the result contains the ids that begin with it
abbrev pub Resolves : Kind → List (List ℕ) → List ℕ → Resolved → Type 0
Resolves kind ids text answer = (prefix : KindDigits) × (prefix_read_in kind hex_letter text ≡ Ok prefix) × Means kind (matches prefix.digits ids) answer
