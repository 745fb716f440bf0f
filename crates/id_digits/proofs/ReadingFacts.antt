-- Reading as a function is the relation: a text reads as the digits that the function gives, and as no others.
use Rattle.id_digits.proofs.Std.{◌≡◌, ℕ, zero, suc, ◌<◌, ◌≤◌, ◌⊎◌, inl, inr, List, [], ◌∷◌, length, refl, sym, ap, ◌∙◌, arith, Option, Some, None, to_ascii_lowercase, nat_tests, length_all_zip}
use Rattle.id_digits.specs.Digits.{IsLetterOf, IsUnreadable, ReadsAs, digit_below, digit_in, digits_read, hex_letter, put_digit}

-- what is found nowhere is None, and what is found where something else is, is that
pub none_found : {A : Type 0} (found : Option A) → ((x : A) → found ≡ Some x → ⊥) → found ≡ None
none_found None h = refl
none_found (Some x) h = absurd (h x refl)

pub same_found : (one other : Option ℕ) → ((d : ℕ) → one ≡ Some d → other ≡ Some d) → ((d : ℕ) → other ≡ Some d → one ≡ Some d) → one ≡ other
same_found None other f g = sym (none_found other (λ d e. let some = g d e in cc))
same_found (Some d) other f g = sym (f d refl)

-- an alphabet: sixteen distinct letters
pub record IsAlphabet (letter : ℕ → ℕ) : Type 0 where
  pub distinct : (d e : ℕ) → d < 16 → e < 16 → letter d ≡ letter e → d ≡ e

pub hex_alphabet : IsAlphabet hex_letter
hex_alphabet = record { distinct = λ d e h g same. grind (arith, nat_tests) }

-- one test of a digit
below_step : (letter : ℕ → ℕ) (c n d : ℕ) → digit_below letter c (suc n) ≡ Some d
    → ((letter n ≡ to_ascii_lowercase c) × (n ≡ d)) ⊎ (digit_below letter c n ≡ Some d)
unfolding digit_below
below_step letter c n d h = grind (arith, nat_tests)

-- a digit that is found has the letter
pub digit_below-sound : (letter : ℕ → ℕ) (c n d : ℕ) → digit_below letter c n ≡ Some d
    → (d < n) × (letter d ≡ to_ascii_lowercase c)
unfolding digit_below
digit_below-sound letter c zero d h = cc h
digit_below-sound letter c (suc n) d h =
    elim (below_step letter c n d h) [
      | inl here ↦ (omega (arith, here.1), rw (here.1) at here.0)
      | inr below ↦ let more = digit_below-sound letter c n d below in (omega (arith, more.0), more.1)
    ]

-- a digit that has the letter is found, if no other below n has it
pub digit_below-complete : (letter : ℕ → ℕ) → IsAlphabet letter → (c n d : ℕ) → n ≤ 16 → d < n
    → letter d ≡ to_ascii_lowercase c → digit_below letter c n ≡ Some d
unfolding digit_below
digit_below-complete letter a c zero d top lt h = absurd (omega arith)
digit_below-complete letter a c (suc n) d top lt h =
    let alike = a.distinct n d (omega arith) (omega arith) in
    let more = digit_below-complete letter a c n d (omega arith) in
    grind (arith, nat_tests, alike, more)

-- a letter's digit is the one that is found
pub digit_in-is : (letter : ℕ → ℕ) → IsAlphabet letter → (c d : ℕ) → IsLetterOf letter c d → digit_in letter c ≡ Some d
digit_in-is letter a c d is = digit_below-complete letter a c 16 d (omega arith) is.digit (sym is.same_letter)

-- what is found is the letter's digit
pub digit_in-letter : (letter : ℕ → ℕ) (c d : ℕ) → digit_in letter c ≡ Some d → IsLetterOf letter c d
digit_in-letter letter c d h =
    let found = digit_below-sound letter c 16 d h in
    record { digit = found.0; same_letter = sym found.1 }

-- the parts of digits that read
put_digit-parts : (first : Option ℕ) (more : Option (List ℕ)) (ds : List ℕ) → put_digit first more ≡ Some ds
    → (d : ℕ) × (rest : List ℕ) × (first ≡ Some d) × (more ≡ Some rest) × (ds ≡ d ∷ rest)
put_digit-parts None more ds h = cc h
put_digit-parts (Some d) None ds h = cc h
put_digit-parts (Some d) (Some rest) ds h = (d, rest, refl, refl, cc h)

-- the text reads as the digits that the function gives
pub ReadsAs-digits_read : (letter : ℕ → ℕ) (text ds : List ℕ) → digits_read letter text ≡ Some ds → ReadsAs letter text ds
unfolding digits_read
ReadsAs-digits_read letter [] [] h = tt
ReadsAs-digits_read letter [] (d ∷ ds) h = cc h
ReadsAs-digits_read letter (c ∷ text) [] h =
    let parts = put_digit-parts (digit_in letter c) (digits_read letter text) [] h in cc parts.4
ReadsAs-digits_read letter (c ∷ text) (d ∷ ds) h =
    let parts = put_digit-parts (digit_in letter c) (digits_read letter text) (d ∷ ds) h in
    let first : d ≡ parts.0 = cc parts.4 in
    let rest : ds ≡ parts.1 = cc parts.4 in
    (digit_in-letter letter c d (parts.2 ∙ ap Some (sym first)), ReadsAs-digits_read letter text ds (parts.3 ∙ ap Some (sym rest)))

-- a text has a byte for each digit that it reads as
pub length-digits_read : (letter : ℕ → ℕ) (text ds : List ℕ) → digits_read letter text ≡ Some ds → length ds ≡ length text
length-digits_read letter text ds h =
    sym (length_all_zip (IsLetterOf letter) text ds (ReadsAs-digits_read letter text ds h))

-- the function gives the digits that the text reads as
pub digits_read-ReadsAs : (letter : ℕ → ℕ) → IsAlphabet letter → (text ds : List ℕ) → ReadsAs letter text ds → digits_read letter text ≡ Some ds
unfolding digits_read
digits_read-ReadsAs letter a [] [] h = refl
digits_read-ReadsAs letter a [] (d ∷ ds) h = absurd h
digits_read-ReadsAs letter a (c ∷ text) [] h = absurd h
digits_read-ReadsAs letter a (c ∷ text) (d ∷ ds) h =
    rw (digit_in-is letter a c d h.0, digits_read-ReadsAs letter a text ds h.1) refl

-- if the function gives no digits, none read
pub IsUnreadable-digits_read : (letter : ℕ → ℕ) → IsAlphabet letter → (text : List ℕ) → digits_read letter text ≡ None → IsUnreadable letter text
IsUnreadable-digits_read letter a text h = λ ds reads. let some = digits_read-ReadsAs letter a text ds reads in cc

-- and if none read, it gives none
pub digits_read-IsUnreadable : (letter : ℕ → ℕ) (text : List ℕ) → IsUnreadable letter text → digits_read letter text ≡ None
digits_read-IsUnreadable letter text h = none_found _ (λ ds e. h ds (ReadsAs-digits_read letter text ds e))
