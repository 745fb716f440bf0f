-- Lowercase hex spellings are equal if and only if the digits are, since distinct digits have distinct letters.
use Rattle.gix_hash.proofs.Std.{◌≡◌, ℕ, ◌↔◌, true, List, length, take, drop, nat_eq, refl, ap, ◌∙◌, is_eq, Ordering, Less, Equal, Greater, bytes_decides, pointwise, texts_ties, starts_with, Decides-eqb, Decides-like, same_from_decides, take-map, length-map, starts_is}
use Rattle.gix_hash.specs.Words.{BeginsWith, KindDigits, hex_letter, place, spelling}
use Rattle.gix_hash.proofs.SpellingLaws.{spelling-injective}
use Rattle.id_lookup.specs.Runs.{begins_with}

-- spellings are equal if and only if the digits are
pointwise-spelling : (xs ys : List ℕ) → pointwise nat_eq (spelling hex_letter xs) (spelling hex_letter ys) ≡ pointwise nat_eq xs ys
pointwise-spelling xs ys =
    same_from_decides _ _ (Decides-like _ (spelling-injective xs ys) (ap (spelling hex_letter)) (bytes_decides (spelling hex_letter xs) (spelling hex_letter ys)))
    (bytes_decides xs ys)

-- a spelling begins with another if and only if its digits begin with the other's
pub starts_with-spelling : (ds ps : List ℕ)
    → starts_with nat_eq (spelling hex_letter ds) (spelling hex_letter ps) ≡ starts_with nat_eq ds ps
starts_with-spelling ds ps =
    ap (λ n. pointwise nat_eq (spelling hex_letter ps) (take n (spelling hex_letter ds))) (length-map ps hex_letter)
    ∙ ap (pointwise nat_eq (spelling hex_letter ps)) (take-map hex_letter (length ps) ds)
    ∙ pointwise-spelling ps (take (length ps) ds)

-- an id begins with a prefix if and only if the place is Equal
pub begins_with-place : (prefix : KindDigits) (id : List ℕ) → begins_with id prefix ≡ is_eq (place prefix.digits id)
begins_with-place prefix id =
    starts_with-spelling id prefix.digits
    ∙ texts_ties prefix.digits (take (length prefix.digits) id)

-- the test of Equal is true for Equal only
pub is_eq-Equal : (o : Ordering) → (is_eq o ≡ true) ↔ (o ≡ Equal)
is_eq-Equal Less = (λ h. cc, λ h. cc)
is_eq-Equal Equal = (λ h. refl, λ h. refl)
is_eq-Equal Greater = (λ h. cc, λ h. cc)

-- the test of a beginning is true if and only if something follows the beginning
pub starts_with-BeginsWith : (whole front : List ℕ) → (starts_with nat_eq whole front ≡ true) ↔ BeginsWith whole front
starts_with-BeginsWith whole front =
    let is = starts_is Decides-eqb whole front (starts_with nat_eq whole front) refl in (λ h. (drop (length front) whole, is.0 h), λ h. is.1 h.0 h.1)
