-- Reading a text into the front of zeros: whole bytes, and the last of an odd number of letters with the letter 0.
use Rattle.id_digits.proofs.Std.{◌≡◌, ℕ, suc, ◌*◌, ◌<◌, Bool, true, false, ◌&&◌, List, [], ◌∷◌, ◌++◌, length, take, drop, get_or, slice_set, replicate, refl, sym, ap, ◌∙◌, arith, drop-cons, Option, Some, None, if◌then◌else◌, option_map, drop_all, take_all, take-append-drop}
use Rattle.id_digits.specs.Digits.{digit_below, digit_in, digits_of, digits_read, hex_letter, padded, put_digit}
use Rattle.id_digits.proofs.Packing.{padded-bytes, padded-half}
use Rattle.id_digits.proofs.ReadingFacts.{length-digits_read}
use Rattle.gix_hash.proofs.Packing.{take-padded}

-- the digits, from the same with zeros after them
parts : (n : ℕ) (answer : Option (List ℕ)) (whole : List ℕ) → option_map (padded n) answer ≡ Some whole
    → (digits : List ℕ) × (answer ≡ Some digits) × (padded n digits ≡ whole)
parts n None whole h = cc h
parts n (Some digits) whole h = (digits, refl, cc h)

-- the text reads as the first digits, as many as it has letters
pub first_read : (letter : ℕ → ℕ) (n : ℕ) (text whole : List ℕ) → option_map (padded n) (digits_read letter text) ≡ Some whole
    → (digits_read letter text ≡ Some (take (length text) whole)) × (whole ≡ padded n (take (length text) whole))
first_read letter n text whole h =
    let read = parts n (digits_read letter text) whole h in
    let len = length-digits_read letter text read.0 read.1 in
    let first : read.0 ≡ take (length text) whole =
    sym (take-padded (length text) n read.0 len) ∙ ap (take (length text)) read.2 in
    (read.1 ∙ ap Some first, sym read.2 ∙ ap (padded n) first)

-- the digits of two texts, one after the other
abbrev joined : Option (List ℕ) → Option (List ℕ) → Option (List ℕ)
joined None more = None
joined (Some ds) None = None
joined (Some ds) (Some es) = Some (ds ++ es)

put_digit-joined : (first : Option ℕ) (front back : Option (List ℕ)) → put_digit first (joined front back) ≡ joined (put_digit first front) back
put_digit-joined None front back = refl
put_digit-joined (Some d) None back = refl
put_digit-joined (Some d) (Some ds) None = refl
put_digit-joined (Some d) (Some ds) (Some es) = refl

joined-nil : (back : Option (List ℕ)) → joined (Some []) back ≡ back
joined-nil None = refl
joined-nil (Some es) = refl

digits_read-append : (front back : List ℕ) → digits_read hex_letter (front ++ back) ≡ joined (digits_read hex_letter front) (digits_read hex_letter back)
unfolding digits_read
digits_read-append [] back = sym (joined-nil (digits_read hex_letter back))
digits_read-append (c ∷ front) back =
    rw (digits_read-append front back) (put_digit-joined (digit_in hex_letter c) (digits_read hex_letter front) (digits_read hex_letter back))

-- one letter before the letter 0
digit_in-zero : digit_in hex_letter 48 ≡ Some 0
unfolding digit_below
digit_in-zero = refl

pair_parts : (found : Option ℕ) (whole : List ℕ) → put_digit found (Some (0 ∷ [])) ≡ Some whole
    → (d : ℕ) × (put_digit found (Some []) ≡ Some (d ∷ [])) × (whole ≡ d ∷ 0 ∷ [])
pair_parts None whole h = cc h
pair_parts (Some d) whole h = (d, refl, cc h)

pair_none : (found : Option ℕ) → put_digit found (Some (0 ∷ [])) ≡ None → put_digit found (Some []) ≡ None
pair_none None h = refl
pair_none (Some d) h = cc h

last_read : (c : ℕ) (whole : List ℕ) → digits_read hex_letter (c ∷ 48 ∷ []) ≡ Some whole
    → (d : ℕ) × (digits_read hex_letter (c ∷ []) ≡ Some (d ∷ [])) × (whole ≡ d ∷ 0 ∷ [])
unfolding digits_read
last_read c whole h = pair_parts (digit_in hex_letter c) whole (rw digit_in-zero at h)

last_none : (c : ℕ) → digits_read hex_letter (c ∷ 48 ∷ []) ≡ None → digits_read hex_letter (c ∷ []) ≡ None
unfolding digits_read
last_none c h = pair_none (digit_in hex_letter c) (rw digit_in-zero at h)

-- an even number of letters
pub even_read : (k m : ℕ) (text bytes zeros : List ℕ) (reads : Bool) → length text ≡ 2 * k → length bytes ≡ k → zeros ≡ replicate m 0
    → digits_read hex_letter (take (2 * k) text) ≡ (if reads then Some (digits_of bytes) else None)
    → option_map (padded (2 * m)) (digits_read hex_letter text) ≡ (if reads then Some (digits_of (bytes ++ drop k zeros)) else None)
even_read k m text bytes zeros reads two long are h = by reads (rw (take_all (2 * k) text (omega arith)) at h)
  where
    by : (reads : Bool) → digits_read hex_letter text ≡ (if reads then Some (digits_of bytes) else None)
        → option_map (padded (2 * m)) (digits_read hex_letter text) ≡ (if reads then Some (digits_of (bytes ++ drop k zeros)) else None)
    by true read = rw read (ap Some (padded-bytes k m bytes zeros long are))
    by false read = rw read refl

-- the one letter that is left
pub one_left : (k : ℕ) (text : List ℕ) → length text ≡ suc k → drop k text ≡ get_or text k 0 ∷ []
one_left k text long = rw (drop-cons text k 0 (omega arith), drop_all (suc k) text (omega arith)) refl

-- an odd number: the last byte is set after the others
pub odd_read : (k m c b : ℕ) (text bytes last zeros : List ℕ) (reads last_reads : Bool) → drop (2 * k) text ≡ c ∷ [] → length bytes ≡ k → k < m
    → zeros ≡ replicate m 0 → last ≡ b ∷ []
    → digits_read hex_letter (take (2 * k) text) ≡ (if reads then Some (digits_of bytes) else None)
    → digits_read hex_letter (c ∷ 48 ∷ []) ≡ (if last_reads then Some (digits_of last) else None)
    → option_map (padded (2 * m)) (digits_read hex_letter text)
    ≡ (if reads && last_reads then Some (digits_of (slice_set (bytes ++ drop k zeros) k b)) else None)
odd_read k m c b text bytes last zeros reads last_reads rest long room are one h g = by reads last_reads h g
  where
    split : digits_read hex_letter text ≡ joined (digits_read hex_letter (take (2 * k) text)) (digits_read hex_letter (c ∷ []))
    split = ap (digits_read hex_letter) (sym (take-append-drop (2 * k) text) ∙ ap (λ (cs : List ℕ). take (2 * k) text ++ cs) rest)
        ∙ digits_read-append (take (2 * k) text) (c ∷ [])

    by : (reads last_reads : Bool) → digits_read hex_letter (take (2 * k) text) ≡ (if reads then Some (digits_of bytes) else None)
        → digits_read hex_letter (c ∷ 48 ∷ []) ≡ (if last_reads then Some (digits_of last) else None)
        → option_map (padded (2 * m)) (digits_read hex_letter text)
        ≡ (if reads && last_reads then Some (digits_of (slice_set (bytes ++ drop k zeros) k b)) else None)
    by false last_reads h g = rw (split, h) refl
    by true false h g = rw (split, h, last_none c g) refl
    by true true h g =
        let end = last_read c (digits_of last) g in
        let half = sym (ap digits_of one) ∙ end.2 in
        rw (split, h, end.1) (ap Some (padded-half k m end.0 b bytes zeros long room are half))
