-- Digits that begin with others.
use Rattle.gix_hash.proofs.Std.{◌≡◌, ℕ, ◌-◌, ◌<◌, ◌≤◌, true, nat_eq, List, [], ◌∷◌, ◌++◌, length, take, drop, replicate, is_eq, refl, sym, ap, ◌∙◌, arith, append-nil, All, starts_with, take-append-drop, take-append-le, take_at}
use Rattle.id_lookup.specs.Words.{KindDigits, first_byte_of, padded, place}
use Rattle.id_lookup.proofs.Spelled.{begins_with-place, starts_with-BeginsWith, starts_with-spelling}

-- if digits with zeros after them begin with a prefix that is not longer than the digits, then the digits do
pub begins_unpadded : (n : ℕ) (digits : List ℕ) (front : KindDigits) → length front.digits ≤ length digits → is_eq (place front.digits (padded n digits)) ≡ true
    → starts_with nat_eq digits front.digits ≡ true
begins_unpadded n digits front short equal =
    let ds = front.digits in
    let zeros = replicate (n - length digits) 0 in
    let b = (starts_with-BeginsWith (padded n digits) ds).0 (sym (starts_with-spelling (padded n digits) ds) ∙ begins_with-place front (padded n digits) ∙ equal) in
    let first : take (length ds) digits ≡ ds = sym (take-append-le (length ds) digits zeros short) ∙ ap (take (length ds)) b.1 ∙ take_at ds b.0 (length ds) refl in
    (starts_with-BeginsWith digits ds).1 (drop (length ds) digits, sym (take-append-drop (length ds) digits) ∙ ap (λ (xs : List ℕ). xs ++ drop (length ds) digits) first)

-- the first byte of digits is a byte
pub small_byte : (digits : List ℕ) → 2 ≤ length digits → All (λ d. d < 16) digits → first_byte_of digits < 256
small_byte [] long small = absurd (omega arith)
small_byte (d ∷ []) long small = absurd (omega arith)
small_byte (d ∷ e ∷ digits) long small =
    let high : d < 16 = small 0 0 (omega arith) in
    let low : e < 16 = small 1 0 (omega arith) in
    omega (arith, high, low)

-- digits begin with themselves
pub begins_whole : (digits : List ℕ) → starts_with nat_eq digits digits ≡ true
begins_whole digits = (starts_with-BeginsWith digits digits).1 ([], sym (append-nil digits))
