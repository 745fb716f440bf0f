use Rattle.gix_hash.proofs.Std.{◌≡◌, ℕ, ◌<◌, length, map, get_or, take, All}
use Rattle.id_lookup.specs.Words.{IsShortestAbbreviationFrom, id_digits}
use Rattle.object_store.specs.Stores.{IsOfKind}
use Rattle.object_store.specs.declared.abbreviations.AbbreviatedId.{AbbreviatedId}
use Rattle.object_store.proofs.abbreviations.with_abbreviations.Given as goal

abbrev pub invariant-loop-at : goal.invariant-loop-at
invariant-loop-at g l =
    (map (λ (n : AbbreviatedId). n.id) l.abbreviated.items ≡ take l.at l.ids)
    × ((k : ℕ) (d : AbbreviatedId) → k < length l.abbreviated.items → IsShortestAbbreviationFrom l.least (map id_digits l.ids) k (get_or l.abbreviated.items k d).abbreviation.digits)
    × All (IsOfKind l.fn.kind) l.abbreviated.items
