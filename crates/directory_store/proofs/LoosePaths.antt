-- How the path of a loose object is written.
use Rattle.gix_hash.proofs.Std.{◌++◌, ◌∷◌, [], ◌≡◌, ◌-◌, ◌≤◌, ℕ, List, length, map, take, drop, subst, ap, ◌∙◌, arith, Option, length-map, take_at, Appends, Appends-trans}
use Rattle.gix_hash.specs.Words.{hex_len_of, hex_letter, spelling}
use Rattle.gix_hash.specs.declared.kind.Kind.{Kind}
use Rattle.gix_hash.specs.declared.kind.Kind.TheVariants.{Sha1, Sha256}
use Rattle.directory_store.specs.Paths.{loose_path}

-- the first two letters, a slash and the others, one after another
pub written : (a b c d : Option (List ℕ)) (digits rest buffer : List ℕ) (n : ℕ) → buffer ≡ spelling hex_letter digits ++ rest → length digits ≡ n → 2 ≤ n
    → Appends a b (take 2 buffer) → Appends b c (47 ∷ []) → Appends c d (take (n - 2) (drop 2 buffer)) → Appends a d (loose_path digits)
written a b c d [] rest buffer n is len most directory slash file = absurd (omega (arith, len, most))
written a b c d (x ∷ []) rest buffer n is len most directory slash file = absurd (omega (arith, len, most))
written a b c d (x ∷ (y ∷ digits)) rest buffer n is len most directory slash file =
    let letters = map hex_letter digits in
    let count : length letters ≡ n - 2 = omega (arith, length-map digits hex_letter, len) in
    let others : take (n - 2) (drop 2 buffer) ≡ letters = ap (λ l. take (n - 2) (drop 2 l)) is ∙ take_at letters rest (n - 2) count in
    Appends-trans a b d _ (47 ∷ letters) (subst (Appends a b) (ap (take 2) is) directory)
    (Appends-trans b c d (47 ∷ []) letters slash (subst (Appends c d) others file))

-- the ids of a kind have two digits or more
pub two_or_more : (kind : Kind) → 2 ≤ hex_len_of kind
two_or_more Sha1 = omega arith
two_or_more Sha256 = omega arith
