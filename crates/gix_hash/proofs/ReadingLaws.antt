-- Which texts the reading calls accept, and why they reject any other.
use Rattle.id_digits.proofs.Std.{◌≡◌, ◌==◌, ◌↔◌, Option, None, Some, Err, nat_lt, ℕ, ◌<◌, ◌≤◌, ◌⊎◌, inl, inr, Bool, true, false, Ok, List, length, map, refl, sym, ap, ◌∙◌, arith, All, MatchResult, Result, to_ascii_lowercase, cases_Bool, nat_tests, length-map}
use borrow.Author.Tests.{ltb-true}
use Rattle.gix_hash.specs.Reading.{IsFullReading, IsFullRefusal, IsPrefixReading, IsPrefixRefusal, IsReadingIn, IsRefusalIn, full_read, letter_of, prefix_read, prefix_read_in, reading_of}
use Rattle.id_digits.specs.Digits.{digits_read, spelling}
use Rattle.gix_hash.specs.Kinds.{hex_len_of, kind_of_full_len, kind_of_hex_len, IsFullLen}
use Rattle.gix_hash.specs.Ids.{AreIdDigits}
use Rattle.gix_hash.specs.Prefixes.{KindDigits, kind_digits}
use Rattle.gix_hash.specs.declared.alphabet.Alphabet.{Alphabet}
use Rattle.gix_hash.specs.declared.alphabet.Alphabet.TheVariants.{Hex, Reverse}
use Rattle.gix_hash.specs.declared.decode.Error as decode
use Rattle.gix_hash.specs.declared.decode.Error.TheVariants as full_errors
use Rattle.gix_hash.specs.declared.kind.Kind.{Kind}
use Rattle.gix_hash.specs.declared.kind.Kind.TheVariants as kinds
use Rattle.gix_hash.specs.declared.prefix.from_hex.Error as from_hex
use Rattle.gix_hash.specs.declared.prefix.from_hex.Error.TheVariants.{TooShort, TooLong, Invalid}
use Rattle.id_digits.proofs.ReverseLetters.{reverse_alphabet}
use Rattle.id_digits.proofs.ReadingFacts.{IsAlphabet, hex_alphabet, digits_read-ReadsAs, ReadsAs-digits_read, IsUnreadable-digits_read, digits_read-IsUnreadable, none_found}
use Rattle.gix_hash.proofs.SpellingLaws.{ReadsAs-lowered}

-- both alphabets are alphabets
pub letter_of-alphabet : (alphabet : Alphabet) → IsAlphabet (letter_of alphabet)
letter_of-alphabet Hex = hex_alphabet
letter_of-alphabet Reverse = reverse_alphabet

-- an id's kind by the number of its digits
full : (kind : Kind) → kind_of_full_len (hex_len_of kind) ≡ Some kind
full kinds.Sha1 = refl
full kinds.Sha256 = refl

full_len : (n : ℕ) (kind : Kind) → kind_of_full_len n ≡ Some kind → n ≡ hex_len_of kind
full_len n kinds.Sha1 h = grind (arith, nat_tests)
full_len n kinds.Sha256 h = grind (arith, nat_tests)

-- what a result without an error is made from
reading_of-ok : {E : Type 0} (kind : Option Kind) (digits : Option (List ℕ)) (e f : E) (b : KindDigits) → reading_of kind digits e f ≡ Ok b
    → (kind ≡ Some b.kind) × (digits ≡ Some b.digits)
reading_of-ok None digits e f b h = cc h
reading_of-ok (Some k) None e f b h = cc h
reading_of-ok (Some k) (Some ds) e f b h =
    let is : kind_digits k ds ≡ b = cc h in (ap (λ p. Some p.kind) is, ap (λ p. Some p.digits) is)

-- the texts that read as a full id
pub full_read-ok : (letter : ℕ → ℕ) → IsAlphabet letter → (text : List ℕ) (b : KindDigits)
    → (full_read letter text ≡ Ok b) ↔ IsFullReading letter text b
full_read-ok letter a text b = (
  λ h. let parts = reading_of-ok _ _ _ _ b h in
      record { kind = full_len (length text) b.kind parts.0; reads = ReadsAs-digits_read letter text b.digits parts.1 },
  λ h. rw (h.kind, full b.kind, digits_read-ReadsAs letter a text b.digits h.reads) refl,
)

-- the texts that read as a prefix
pub prefix_read-ok : (letter : ℕ → ℕ) → IsAlphabet letter → (least : ℕ) (text : List ℕ) (b : KindDigits)
    → (prefix_read letter least text ≡ Ok b) ↔ IsPrefixReading letter least text b
prefix_read-ok letter a least text b = elim (cases_Bool (nat_lt (length text) least)) [
  | inl e ↦ (λ h. cc (rw e at h), λ h. absurd (omega (arith, h.long_enough, ltb-true)))
  | inr e ↦ (
    λ h. let parts = reading_of-ok _ _ _ _ b (rw e at h) in
        record { long_enough = grind (arith, nat_tests); kind = parts.0; reads = ReadsAs-digits_read letter text b.digits parts.1 },
    λ h. rw (e, h.kind, digits_read-ReadsAs letter a text b.digits h.reads) refl,
  )
]

-- the spelling of an id's digits, in any letter case, reads as these
pub full_read-printed : (letter : ℕ → ℕ) → IsAlphabet letter → (text : List ℕ) (kind : Kind) (digits : List ℕ)
    → map to_ascii_lowercase text ≡ spelling letter digits → AreIdDigits kind digits → full_read letter text ≡ Ok (kind_digits kind digits)
full_read-printed letter a text kind digits lowered h =
    (full_read-ok letter a text (kind_digits kind digits)).1 record {
      kind = sym (length-map text to_ascii_lowercase) ∙ ap length lowered ∙ length-map digits letter ∙ h.0;
      reads = ReadsAs-lowered letter text digits h.1 lowered;
    }

-- what an error is made from
reading_of-err : {E : Type 0} (kind : Option Kind) (digits : Option (List ℕ)) (e f x : E) → reading_of kind digits e f ≡ Err x
    → ((kind ≡ None) × (x ≡ e)) ⊎ ((k : Kind) × (kind ≡ Some k) × (digits ≡ None) × (x ≡ f))
reading_of-err None digits e f x h = inl (refl, cc h)
reading_of-err (Some k) None e f x h = inr (k, refl, refl, cc h)
reading_of-err (Some k) (Some ds) e f x h = cc h

-- no kind has ids of n digits
no_full_len : (n : ℕ) → kind_of_full_len n ≡ None → ¬ IsFullLen n
no_full_len n none is = let some : kind_of_full_len n ≡ Some is.0 = rw is.1 (full is.0) in cc

none_full_len : (n : ℕ) → ¬ IsFullLen n → kind_of_full_len n ≡ None
none_full_len n h = none_found _ (λ k e. h (k, full_len n k e))

-- why a text is rejected as a full id
pub full_read-err : (letter : ℕ → ℕ) → IsAlphabet letter → (text : List ℕ) (error : decode.Error)
    → (full_read letter text ≡ Err error) ↔ IsFullRefusal letter text error
full_read-err letter a text (full_errors.InvalidHexEncodingLength n) = (
  λ h. elim (reading_of-err _ _ _ _ _ h) [ inl is ↦ (cc is.1, no_full_len (length text) is.0) | inr is ↦ cc is.3 ],
  λ h. rw (none_full_len (length text) h.1, h.0) refl,
)
full_read-err letter a text full_errors.Invalid = (
  λ h. elim (reading_of-err _ _ _ _ _ h) [
    | inl is ↦ cc is.1
    | inr is ↦ ((is.0, full_len (length text) is.0 is.1), IsUnreadable-digits_read letter a text is.2)
  ],
  λ h. rw (h.0.1, full h.0.0, digits_read-IsUnreadable letter text h.1) refl,
)

-- what each outcome implies
each_case : {T E : Type 0} (r : Result T E) (P : T → Type 0) (Q : E → Type 0) → ((x : T) → r ≡ Ok x → P x) → ((e : E) → r ≡ Err e → Q e) → MatchResult r P Q
each_case (Ok x) P Q ok err = ok x refl
each_case (Err e) P Q ok err = err e refl

-- either way
pub full_read-cases : (letter : ℕ → ℕ) → IsAlphabet letter → (text : List ℕ)
    → MatchResult (full_read letter text) (IsFullReading letter text) (IsFullRefusal letter text)
full_read-cases letter a text =
    each_case (full_read letter text) _ _ (λ id. (full_read-ok letter a text id).0) (λ error. (full_read-err letter a text error).0)

-- no id has more than 64 digits
none_hex_len : (n : ℕ) → 64 < n → kind_of_hex_len n ≡ None
none_hex_len n h = grind (arith, nat_tests)

no_hex_len : (n : ℕ) → kind_of_hex_len n ≡ None → 64 < n
no_hex_len n h = grind (arith, nat_tests)

-- some kind has room for up to 64 digits
pub some_hex_len : (n : ℕ) → n ≤ 64 → (kind : Kind) × (kind_of_hex_len n ≡ Some kind)
some_hex_len n h = by_kind (kind_of_hex_len n) refl
  where
    by_kind : (kind : Option Kind) → kind_of_hex_len n ≡ kind → (k : Kind) × (kind_of_hex_len n ≡ Some k)
    by_kind None e = absurd (omega (arith, no_hex_len n e))
    by_kind (Some k) e = (k, e)

within_hex_len : (n : ℕ) (kind : Kind) → kind_of_hex_len n ≡ Some kind → n ≤ 64
within_hex_len n kind h = grind (arith, nat_tests)

-- why a text is rejected as a prefix
pub prefix_read-err : (letter : ℕ → ℕ) → IsAlphabet letter → (least : ℕ) (text : List ℕ) (error : from_hex.Error)
    → (prefix_read letter least text ≡ Err error) ↔ IsPrefixRefusal letter least text error
prefix_read-err letter a least text error = elim (cases_Bool (nat_lt (length text) least)) [ inl e ↦ too_short e error | inr e ↦ long_enough e error ]
  where
    too_short : nat_lt (length text) least ≡ true → (x : from_hex.Error) → (prefix_read letter least text ≡ Err x) ↔ IsPrefixRefusal letter least text x
    too_short e (TooShort n) = (λ h. (cc (rw e at h), ltb-true (length text) least e), λ h. rw (e, h.0) refl)
    too_short e (TooLong n) = (λ h. cc (rw e at h), λ h. absurd (omega (arith, h.1, ltb-true)))
    too_short e Invalid = (λ h. cc (rw e at h), λ h. absurd (omega (arith, h.0, ltb-true)))

    long_enough : nat_lt (length text) least ≡ false → (x : from_hex.Error) → (prefix_read letter least text ≡ Err x) ↔ IsPrefixRefusal letter least text x
    long_enough e (TooShort n) = (
      λ h. elim (reading_of-err _ _ _ _ _ (rw e at h)) [ inl is ↦ cc is.1 | inr is ↦ cc is.3 ],
      λ h. let less = h.1 in grind (arith, nat_tests),
    )
    long_enough e (TooLong n) = (
      λ h. elim (reading_of-err _ _ _ _ _ (rw e at h)) [
        | inl is ↦ (cc is.1, grind (arith, nat_tests), no_hex_len (length text) is.0)
        | inr is ↦ cc is.3
      ],
      λ h. rw (e, none_hex_len (length text) h.2, h.0) refl,
    )
    long_enough e Invalid = (
      λ h. elim (reading_of-err _ _ _ _ _ (rw e at h)) [
        | inl is ↦ cc is.1
        | inr is ↦ (grind (arith, nat_tests), within_hex_len (length text) is.0 is.1, IsUnreadable-digits_read letter a text is.2)
      ],
      λ h. let kind = some_hex_len (length text) h.1 in rw (e, kind.1, digits_read-IsUnreadable letter text h.2) refl,
    )

-- either way
pub prefix_read-cases : (letter : ℕ → ℕ) → IsAlphabet letter → (least : ℕ) (text : List ℕ)
    → MatchResult (prefix_read letter least text) (IsPrefixReading letter least text) (IsPrefixRefusal letter least text)
prefix_read-cases letter a least text =
    each_case (prefix_read letter least text) _ _ (λ p. (prefix_read-ok letter a least text p).0) (λ error. (prefix_read-err letter a least text error).0)

-- a prefix's spelling, in any letter case, reads as its digits, of the kind with the shortest ids that have room for them
pub prefix_read-printed : (letter : ℕ → ℕ) → IsAlphabet letter → (text : List ℕ) (p : KindDigits)
    → map to_ascii_lowercase text ≡ spelling letter p.digits → 1 ≤ length p.digits → length p.digits ≤ 64 → All (λ d. d < 16) p.digits
    → (kind : Kind) × (kind_of_hex_len (length p.digits) ≡ Some kind) × (prefix_read letter 1 text ≡ Ok (kind_digits kind p.digits))
prefix_read-printed letter a text p lowered some within fits =
    let digits = digits_read-ReadsAs letter a text p.digits (ReadsAs-lowered letter text p.digits fits lowered) in
    let count : length text ≡ length p.digits =
    sym (length-map text to_ascii_lowercase) ∙ ap length lowered ∙ length-map p.digits letter in
    let kind = some_hex_len (length p.digits) within in
    let enough : nat_lt (length p.digits) 1 ≡ false = grind (arith, nat_tests) in
    (kind.0, kind.1, rw (count, enough, kind.1, digits) refl)

-- and so it reads as the prefix if and only if its kind is that one
pub prefix_read-same : (letter : ℕ → ℕ) (text : List ℕ) (p : KindDigits)
    → ((kind : Kind) × (kind_of_hex_len (length p.digits) ≡ Some kind) × (prefix_read letter 1 text ≡ Ok (kind_digits kind p.digits)))
    → (prefix_read letter 1 text ≡ Ok p) ↔ (kind_of_hex_len (length p.digits) ≡ Some p.kind)
prefix_read-same letter text p read = (
  λ h. (let both = sym read.2 ∙ h in
      let is : kind_digits read.0 p.digits ≡ p = cc both in read.1 ∙ ap (λ b. Some b.kind) is),
  λ h. (let some = sym read.1 ∙ h in
      let is : read.0 ≡ p.kind = cc some in read.2 ∙ ap (λ kind. Ok (kind_digits kind p.digits)) is),
)

-- the texts that read as a prefix in a kind
pub prefix_read_in-ok : (kind : Kind) (letter : ℕ → ℕ) → IsAlphabet letter → (text : List ℕ) (b : KindDigits)
    → (prefix_read_in kind letter text ≡ Ok b) ↔ IsReadingIn kind letter text b
prefix_read_in-ok kind letter a text b = by_tests (nat_lt (hex_len_of kind) (length text)) refl (length text == 0) refl
  where
    by_tests : (long : Bool) → nat_lt (hex_len_of kind) (length text) ≡ long → (empty : Bool) → (length text == 0) ≡ empty
        → (prefix_read_in kind letter text ≡ Ok b) ↔ IsReadingIn kind letter text b
    by_tests true e empty f = (λ h. cc (rw e at h), λ h. absurd (omega (arith, h.room, ltb-true)))
    by_tests false e true f = (λ h. cc (rw (e, f) at h), λ h. let some = h.nonempty in grind (arith, nat_tests))
    by_tests false e false f = (
      λ h. let parts = reading_of-ok (Some kind) (digits_read letter text) Invalid Invalid b (rw (e, f) at h) in
          record {
            nonempty = grind (arith, nat_tests);
            room = grind (arith, nat_tests);
            same_kind = cc parts.0;
            reads = ReadsAs-digits_read letter text b.digits parts.1;
          },
      λ h. let is : kind_digits kind b.digits ≡ b = ap (λ k. kind_digits k b.digits) (sym h.same_kind) in
          rw (e, f, digits_read-ReadsAs letter a text b.digits h.reads) (ap Ok is),
    )

-- of a prefix that has room, only letters can be rejected
only_invalid : (kind : Kind) (digits : Option (List ℕ)) (x : from_hex.Error) → reading_of (Some kind) digits Invalid Invalid ≡ Err x → (x ≡ Invalid) × (digits ≡ None)
only_invalid kind None x h = (cc h, refl)
only_invalid kind (Some ds) x h = cc h

-- why a text is rejected as a prefix in a kind
pub prefix_read_in-err : (kind : Kind) (letter : ℕ → ℕ) → IsAlphabet letter → (text : List ℕ) (error : from_hex.Error)
    → (prefix_read_in kind letter text ≡ Err error) ↔ IsRefusalIn kind letter text error
prefix_read_in-err kind letter a text error = by_tests (nat_lt (hex_len_of kind) (length text)) refl (length text == 0) refl error
  where
    by_tests : (long : Bool) → nat_lt (hex_len_of kind) (length text) ≡ long → (empty : Bool) → (length text == 0) ≡ empty
        → (x : from_hex.Error) → (prefix_read_in kind letter text ≡ Err x) ↔ IsRefusalIn kind letter text x
    by_tests true e empty f (TooLong n) = (λ h. (cc (rw e at h), ltb-true (hex_len_of kind) (length text) e), λ h. rw (e, h.0) refl)
    by_tests true e empty f (TooShort n) = (λ h. cc (rw e at h), λ h. let none = h.1 in grind (arith, nat_tests))
    by_tests true e empty f Invalid = (λ h. cc (rw e at h), λ h. let room = h.1 in grind (arith, nat_tests))
    by_tests false e true f (TooLong n) = (λ h. cc (rw (e, f) at h), λ h. let long = h.1 in grind (arith, nat_tests))
    by_tests false e true f (TooShort n) = (λ h. (cc (rw (e, f) at h), grind (arith, nat_tests)), λ h. rw (e, f, h.0) refl)
    by_tests false e true f Invalid = (λ h. cc (rw (e, f) at h), λ h. let some = h.0 in grind (arith, nat_tests))
    by_tests false e false f (TooLong n) = (λ h. cc (only_invalid kind (digits_read letter text) (TooLong n) (rw (e, f) at h)).0, λ h. let long = h.1 in grind (arith, nat_tests))
    by_tests false e false f (TooShort n) = (λ h. cc (only_invalid kind (digits_read letter text) (TooShort n) (rw (e, f) at h)).0, λ h. let none = h.1 in grind (arith, nat_tests))
    by_tests false e false f Invalid = (
      λ h. (grind (arith, nat_tests), grind (arith, nat_tests), IsUnreadable-digits_read letter a text (only_invalid kind (digits_read letter text) Invalid (rw (e, f) at h)).1),
      λ h. rw (e, f, digits_read-IsUnreadable letter text h.2) refl,
    )

-- a prefix's spelling, in any letter case, reads in its kind as the prefix
pub prefix_read_in-printed : (letter : ℕ → ℕ) → IsAlphabet letter → (text : List ℕ) (p : KindDigits)
    → map to_ascii_lowercase text ≡ spelling letter p.digits → 1 ≤ length p.digits → length p.digits ≤ hex_len_of p.kind → All (λ d. d < 16) p.digits
    → prefix_read_in p.kind letter text ≡ Ok p
prefix_read_in-printed letter a text p lowered some within fits =
    let count : length text ≡ length p.digits = sym (length-map text to_ascii_lowercase) ∙ ap length lowered ∙ length-map p.digits letter in
    (prefix_read_in-ok p.kind letter a text p).1 record {
      nonempty = omega arith;
      room = omega arith;
      same_kind = refl;
      reads = ReadsAs-lowered letter text p.digits fits lowered;
    }
