-- Comparing bytes is comparing digits: the laws by which equality and order speak only of digits.
use Rattle.id_digits.proofs.Std.{◌∙◌, sym, ap, ◌≡◌, ℕ, ◌/◌, ◌%◌, List, [], ◌∷◌, zero, suc, take, Less, Equal, Greater, refl, arith, IsTrue, nat_eq, nat_tests, Ordering, is_eq, nat_cmp, ordering_then, slice_cmp, pointwise, bytes_decides, texts_ties}
use Rattle.id_digits.specs.Digits.{digits_of}

-- a list is below another if its first elements are
then_less : (o p q : Ordering) → (p ≡ Less → q ≡ Less) → ordering_then o p ≡ Less → ordering_then o q ≡ Less
then_less Less p q f h = h
then_less Equal p q f h = f h
then_less Greater p q f h = cc h

pub take_less : (n : ℕ) (xs ys : List ℕ) → slice_cmp nat_cmp (take n xs) (take n ys) ≡ Less → slice_cmp nat_cmp xs ys ≡ Less
take_less zero xs ys h = cc h
take_less (suc n) [] [] h = cc h
take_less (suc n) [] (y ∷ ys) h = h
take_less (suc n) (x ∷ xs) [] h = cc h
take_less (suc n) (x ∷ xs) (y ∷ ys) h = then_less (nat_cmp x y) _ _ (take_less n xs ys) h

-- two numbers compare as their halves do
nat_cmp-halves : (x y : ℕ) (o : Ordering)
    → ordering_then (nat_cmp (x / 16) (y / 16)) (ordering_then (nat_cmp (x % 16) (y % 16)) o) ≡ ordering_then (nat_cmp x y) o
nat_cmp-halves x y o = grind (arith, nat_tests)

-- two lists of bytes compare as their digits do
pub slice_cmp-digits_of : (xs ys : List ℕ) → slice_cmp nat_cmp (digits_of xs) (digits_of ys) ≡ slice_cmp nat_cmp xs ys
unfolding digits_of
slice_cmp-digits_of [] [] = refl
slice_cmp-digits_of [] (y ∷ ys) = refl
slice_cmp-digits_of (x ∷ xs) [] = refl
slice_cmp-digits_of (x ∷ xs) (y ∷ ys) = rw (slice_cmp-digits_of xs ys) (nat_cmp-halves x y (slice_cmp nat_cmp xs ys))

-- two lists of bytes are equal if and only if their digits are
pub pointwise-digits_of : (xs ys : List ℕ) → pointwise nat_eq (digits_of xs) (digits_of ys) ≡ pointwise nat_eq xs ys
pointwise-digits_of xs ys = texts_ties (digits_of xs) (digits_of ys) ∙ ap is_eq (slice_cmp-digits_of xs ys) ∙ sym (texts_ties xs ys)

-- bytes whose digits are equal are equal
pub same_bytes : (xs ys : List ℕ) → IsTrue (pointwise nat_eq (digits_of xs) (digits_of ys)) → xs ≡ ys
same_bytes xs ys h = (bytes_decides xs ys).0 (sym (pointwise-digits_of xs ys) ∙ h)

-- what turns a goal on digits into one on bytes
pub ruleset to_digits = (slice_cmp-digits_of, pointwise-digits_of)
