-- The smallest number of digits of an id of a list.
use Rattle.gix_hash.proofs.Std.{◌≡◌, ℕ, zero, suc, ◌≤◌, ◌<◌, min, List, [], ◌∷◌, length, get_or, take, refl, arith, All}
use Rattle.id_lookup.specs.Runs.{least_hex_len}

-- no member has fewer digits
pub least_hex_len-le : (ids : List (List ℕ)) → All (λ id. least_hex_len ids ≤ length id) ids
least_hex_len-le [] k d h = absurd (omega arith)
least_hex_len-le (id ∷ ids) zero d h = omega arith
least_hex_len-le (id ∷ ids) (suc k) d h = let more = least_hex_len-le ids k d (omega arith) in omega arith

-- with one more member, it is the smaller of that member's and the previous one
pub least_hex_len-take : (ids : List (List ℕ)) (k : ℕ) (d : List ℕ) → k < length ids
    → least_hex_len (take (suc k) ids) ≡ min (length (get_or ids k d)) (least_hex_len (take k ids))
least_hex_len-take [] k d h = absurd (omega arith)
least_hex_len-take (id ∷ ids) zero d h = refl
least_hex_len-take (id ∷ ids) (suc k) d h = omega (arith, least_hex_len-take ids k d (omega arith))
