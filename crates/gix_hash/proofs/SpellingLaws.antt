-- Spellings determine their digits, and the order of spellings.
use Rattle.id_digits.proofs.Std.{◌≡◌, ◌↔◌, ℕ, ◌<◌, ◌==◌, true, List, [], ◌∷◌, length, map, slice_index, refl, sym, ap, ◌∙◌, arith, eqb-true, Ordering, All, IsTrue, codes, slice_cmp, nat_cmp, ordering_then, ordering_reverse, to_ascii_lowercase, agree_below, agree_below_at, nat_tests, All-nil, All-cons, All-head, All-tail}
use Rattle.std.specs.Cmp.{tied_itself, nat_cmp_total}
use Rattle.gix_hash.specs.Reading.{letter_of}
use Rattle.id_digits.specs.Digits.{hex_letter, reverse_letter, spelling, ReadsAs}
use Rattle.gix_hash.proofs.Equalities.{id_eq-parts, oid_eq-digits, prefix_eq-parts}
use Rattle.gix_hash.specs.Kinds.{hex_len_of, number_of}
use Rattle.gix_hash.specs.Ids.{id_cmp, id_digits, id_eq, id_kind, oid_digits, oid_eq, oid_kind}
use Rattle.gix_hash.specs.Prefixes.{KindDigits, prefix_eq}
use Rattle.gix_hash.specs.declared.alphabet.Alphabet.{Alphabet}
use Rattle.gix_hash.specs.declared.alphabet.Alphabet.TheVariants.{Hex, Reverse}
use Rattle.gix_hash.specs.declared.borrowed.oid.{oid}
use Rattle.gix_hash.specs.declared.object_id.ObjectId.{ObjectId}
use Rattle.gix_hash.proofs.IdFacts.{length-oid}
use Rattle.gix_hash.proofs.KindFacts.{same_kind}

-- functions that agree on each digit
same_below_16 : (f g : ℕ → ℕ) → agree_below (λ k. f k == g k) (λ k. true) 16 ≡ true → (d : ℕ) → d < 16 → f d ≡ g d
same_below_16 f g all d h = eqb-true (f d) (g d) (agree_below_at (λ k. f k == g k) (λ k. true) 16 d all h)

-- the letters by their tables
pub hex_letter-table : (d : ℕ) → d < 16 → hex_letter d ≡ slice_index (codes "0123456789abcdef") d
hex_letter-table = same_below_16 hex_letter (slice_index (codes "0123456789abcdef")) refl

pub reverse_letter-table : (d : ℕ) → d < 16 → reverse_letter d ≡ slice_index (codes "zyxwvutsrqponmlk") d
reverse_letter-table = same_below_16 reverse_letter (slice_index (codes "zyxwvutsrqponmlk")) refl

-- a letter determines its digit
hex_letter-injective : (d e : ℕ) → hex_letter d ≡ hex_letter e → d ≡ e
hex_letter-injective d e h = grind (arith, nat_tests)

-- a spelling determines its digits
pub spelling-injective : (ds es : List ℕ) → spelling hex_letter ds ≡ spelling hex_letter es → ds ≡ es
spelling-injective [] [] h = refl
spelling-injective [] (e ∷ es) h = cc h
spelling-injective (d ∷ ds) [] h = cc h
spelling-injective (d ∷ ds) (e ∷ es) h =
    let first : hex_letter d ≡ hex_letter e = cc h in
    let rest : spelling hex_letter ds ≡ spelling hex_letter es = cc h in
    let digit = hex_letter-injective d e first in
    let digits = spelling-injective ds es rest in
    λ i. digit i ∷ digits i

-- `==` of owned ids by their spellings, whose lengths determine the kinds
pub id_eq-spelling : (a b : ObjectId) → length (id_digits a) ≡ hex_len_of (id_kind a) → length (id_digits b) ≡ hex_len_of (id_kind b)
    → IsTrue (id_eq a b) ↔ (spelling hex_letter (id_digits a) ≡ spelling hex_letter (id_digits b))
id_eq-spelling a b la lb = (
  λ h. ap (spelling hex_letter) ((id_eq-parts a b).0 h).1,
  λ h. (let digits = spelling-injective (id_digits a) (id_digits b) h in
      (id_eq-parts a b).1 (same_kind (id_kind a) (id_kind b) (sym la ∙ ap length digits ∙ lb), digits)),
)

-- `==` of views by their spellings
pub oid_eq-spelling : (a b : oid) → IsTrue (oid_eq a b) ↔ (spelling hex_letter (oid_digits a) ≡ spelling hex_letter (oid_digits b))
oid_eq-spelling a b = (
  λ h. ap (spelling hex_letter) ((oid_eq-digits a b).0 h),
  λ h. (oid_eq-digits a b).1 (spelling-injective (oid_digits a) (oid_digits b) h),
)

-- equal views have one kind
pub oid_eq-kind : (a b : oid) → IsTrue (oid_eq a b) → oid_kind a ≡ oid_kind b
oid_eq-kind a b h =
    same_kind (oid_kind a) (oid_kind b) (sym (length-oid a) ∙ ap length ((oid_eq-digits a b).0 h) ∙ length-oid b)

-- `==` of prefixes by their kinds and their spellings
pub prefix_eq-spelling : (a b : KindDigits)
    → IsTrue (prefix_eq a b) ↔ ((a.kind ≡ b.kind) × (spelling hex_letter a.digits ≡ spelling hex_letter b.digits))
prefix_eq-spelling a b = (
  λ h. (let parts = (prefix_eq-parts a b).0 h in (parts.0, ap (spelling hex_letter) parts.1)),
  λ h. (prefix_eq-parts a b).1 (h.0, spelling-injective a.digits b.digits h.1),
)

-- a text that is a spelling in any letter case reads as its digits
pub ReadsAs-lowered : (letter : ℕ → ℕ) (text ds : List ℕ) → All (λ d. d < 16) ds → map to_ascii_lowercase text ≡ spelling letter ds → ReadsAs letter text ds
ReadsAs-lowered letter [] [] fits h = tt
ReadsAs-lowered letter [] (d ∷ ds) fits h = cc h
ReadsAs-lowered letter (c ∷ text) [] fits h = cc h
ReadsAs-lowered letter (c ∷ text) (d ∷ ds) fits h = (
  record { digit = All-head (λ (x : ℕ). x < 16) d ds fits; same_letter = cc h },
  ReadsAs-lowered letter text ds (All-tail (λ (x : ℕ). x < 16) d ds fits) (cc h),
)

-- and only such a text does
ReadsAs-spelled : (letter : ℕ → ℕ) (text ds : List ℕ) → ReadsAs letter text ds → All (λ d. d < 16) ds × (map to_ascii_lowercase text ≡ spelling letter ds)
ReadsAs-spelled letter [] [] h = (All-nil (λ (x : ℕ). x < 16), refl)
ReadsAs-spelled letter [] (d ∷ ds) h = absurd h
ReadsAs-spelled letter (c ∷ text) [] h = absurd h
ReadsAs-spelled letter (c ∷ text) (d ∷ ds) h =
    let first = h.0.same_letter in
    let rest = ReadsAs-spelled letter text ds h.1 in
    (All-cons (λ (x : ℕ). x < 16) d ds h.0.digit rest.0, λ i. first i ∷ rest.1 i)

-- both ways
pub ReadsAs-is : (letter : ℕ → ℕ) (text ds : List ℕ) → ReadsAs letter text ds ↔ (All (λ d. d < 16) ds × (map to_ascii_lowercase text ≡ spelling letter ds))
ReadsAs-is letter text ds = (ReadsAs-spelled letter text ds, λ h. ReadsAs-lowered letter text ds h.0 h.1)

-- letters are lowercase
lowercase_letter : (alphabet : Alphabet) (d : ℕ) → d < 16 → to_ascii_lowercase (letter_of alphabet d) ≡ letter_of alphabet d
lowercase_letter Hex = same_below_16 (λ k. to_ascii_lowercase (hex_letter k)) hex_letter refl
lowercase_letter Reverse = same_below_16 (λ k. to_ascii_lowercase (reverse_letter k)) reverse_letter refl

-- and so are spellings
pub lowercase_spelling : (alphabet : Alphabet) (ds : List ℕ) → All (λ d. d < 16) ds
    → map to_ascii_lowercase (spelling (letter_of alphabet) ds) ≡ spelling (letter_of alphabet) ds
lowercase_spelling alphabet [] fits = refl
lowercase_spelling alphabet (d ∷ ds) fits =
    let first = lowercase_letter alphabet d (All-head (λ (x : ℕ). x < 16) d ds fits) in
    let rest = lowercase_spelling alphabet ds (All-tail (λ (x : ℕ). x < 16) d ds fits) in
    λ i. first i ∷ rest i

-- within a kind owned ids are ordered by their digits
pub id_cmp-digits : (a b : ObjectId) → id_kind a ≡ id_kind b → id_cmp a b ≡ slice_cmp nat_cmp (id_digits a) (id_digits b)
id_cmp-digits a b h = rw (h, tied_itself nat_cmp_total (number_of (id_kind b))) refl

-- reverse letters have the opposite order of digits
opposite_letters : (x y : ℕ) → x < 16 → y < 16 → (o : Ordering)
    → ordering_then (nat_cmp (reverse_letter x) (reverse_letter y)) (ordering_reverse o) ≡ ordering_reverse (ordering_then (nat_cmp x y) o)
opposite_letters x y h g o = grind (arith, nat_tests)

-- reverse spellings of as many digits have the opposite order
pub opposite_spellings : (xs ys : List ℕ) → length xs ≡ length ys → All (λ d. d < 16) xs → All (λ d. d < 16) ys
    → slice_cmp nat_cmp (spelling reverse_letter xs) (spelling reverse_letter ys) ≡ ordering_reverse (slice_cmp nat_cmp xs ys)
opposite_spellings [] [] len fx fy = refl
opposite_spellings [] (y ∷ ys) len fx fy = absurd (omega arith)
opposite_spellings (x ∷ xs) [] len fx fy = absurd (omega arith)
opposite_spellings (x ∷ xs) (y ∷ ys) len fx fy =
    let more = opposite_spellings xs ys (omega arith) (All-tail (λ (d : ℕ). d < 16) x xs fx) (All-tail (λ (d : ℕ). d < 16) y ys fy) in
    rw more (opposite_letters x y (All-head (λ (d : ℕ). d < 16) x xs fx) (All-head (λ (d : ℕ). d < 16) y ys fy) (slice_cmp nat_cmp xs ys))
