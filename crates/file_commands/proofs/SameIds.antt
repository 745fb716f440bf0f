-- Ids that a search finds in a list.
use Rattle.gix_hash.proofs.Std.{◌≡◌, ◌<◌, ◌∙◌, ℕ, List, Contains, comparing, length, rules}
use Rattle.std.specs.Cmp.{Equal-is}
use Rattle.std.specs.List.{HoldsAt}
use Rattle.std.specs.Ordering.{eq_by_cmp}
use Rattle.std.specs.declared.cmp.Ordering.TheVariants.{Equal}
use Rattle.gix_hash.proofs.Equalities.{id_eq-same}
use Rattle.gix_hash.specs.Words.{id_cmp, id_eq}
use Rattle.gix_hash.specs.declared.ObjectId.{ObjectId}

ties : (a b : ObjectId) → id_eq a b ≡ eq_by_cmp id_cmp a b
ties a b = search (comparing, rules)

-- an id at a position that the order does not tell apart from another one is that one
pub found-at : (own : List ObjectId) (id : ObjectId) (at : ℕ) → at < length own → HoldsAt (λ y. id_cmp y id ≡ Equal) own at → Contains own id
found-at own id at inside tied = (at, inside, (id_eq-same _ _).0 (ties _ id ∙ (Equal-is _).1 (tied id)))
