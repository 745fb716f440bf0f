-- What begins with two digits or more has their first byte.
use Rattle.gix_hash.proofs.Std.{◌≡◌, ℕ, ◌<◌, ◌≤◌, ◌/◌, ◌%◌, true, cond, nat_eq, List, [], ◌∷◌, ◌++◌, length, refl, ap, ◌∙◌, arith, All, starts_with, nat_tests, All-tail}
pub use Rattle.std.proofs.lemmas.Bool.{eq-eqb as same_test, eqb-true as test_same}
use Rattle.gix_hash.specs.Words.{AreIdDigits, first_byte_of}
use Rattle.gix_hash.specs.declared.Kind.{Kind}
use Rattle.gix_hash.specs.declared.Kind.TheVariants.{Sha1, Sha256}
use Rattle.id_lookup.specs.Runs.{has_first_byte, matches}
use Rattle.id_lookup.proofs.Spelled.{starts_with-BeginsWith}
use Rattle.id_lookup.specs.Indexes.{part_of}
use Rattle.id_lookup.proofs.Filters.{filter_within}

first_byte_of-append : (digits rest : List ℕ) → 2 ≤ length digits → first_byte_of (digits ++ rest) ≡ first_byte_of digits
first_byte_of-append [] rest long = absurd (omega arith)
first_byte_of-append (d ∷ []) rest long = absurd (omega arith)
first_byte_of-append (d ∷ e ∷ digits) rest long = refl

pub first_byte_of-begins : (id digits : List ℕ) → 2 ≤ length digits → starts_with nat_eq id digits ≡ true → first_byte_of id ≡ first_byte_of digits
first_byte_of-begins id digits long begins =
    let is = (starts_with-BeginsWith id digits).0 begins in
    ap first_byte_of is.1 ∙ first_byte_of-append digits is.0 long

-- so the prefix is found in one part
pub matches-part : (digits : List ℕ) (ids : List (List ℕ)) → 2 ≤ length digits → matches digits (part_of (first_byte_of digits) ids) ≡ matches digits ids
matches-part digits ids long =
    filter_within (has_first_byte (first_byte_of digits)) (λ id. starts_with nat_eq id digits)
    (λ id begins. same_test (first_byte_of id) (first_byte_of digits) (first_byte_of-begins id digits long begins)) ids

-- the ids of a kind with a first byte are those that begin with its two digits
pub part-matches : (kind : Kind) (byte : ℕ) (ids : List (List ℕ)) → All (AreIdDigits kind) ids → part_of byte ids ≡ matches (byte / 16 ∷ byte % 16 ∷ []) ids
part-matches kind byte [] are = refl
part-matches kind byte (id ∷ ids) are =
    let same = one kind id (are 0 id (omega arith)) in
    let rest = part-matches kind byte ids (All-tail (AreIdDigits kind) id ids are) in
    λ i. cond (same i) (id ∷ rest i) (rest i)
  where
    by : (id : List ℕ) → 2 ≤ length id → All (λ d. d < 16) id → has_first_byte byte id ≡ starts_with nat_eq id (byte / 16 ∷ byte % 16 ∷ [])
    by [] long small = absurd (omega arith)
    by (d ∷ []) long small = absurd (omega arith)
    by (d ∷ e ∷ id) long small =
        let high : d < 16 = small 0 0 (omega arith) in
        let low : e < 16 = small 1 0 (omega arith) in
        grind (arith, nat_tests)

    one : (kind : Kind) (id : List ℕ) → AreIdDigits kind id → has_first_byte byte id ≡ starts_with nat_eq id (byte / 16 ∷ byte % 16 ∷ [])
    one Sha1 id is = by id (omega (arith, is.0)) is.1
    one Sha256 id is = by id (omega (arith, is.0)) is.1
