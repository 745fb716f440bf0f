-- Why words and then the number of digits are the dictionary order of digits.
use Rattle.id_digits.proofs.Std.{◌≡◌, ℕ, zero, suc, ◌+◌, ◌-◌, ◌^◌, ◌<◌, ◌≤◌, List, [], ◌∷◌, length, take, drop, refl, sym, ap, ◌∙◌, arith, Equal, Ordering, nat_cmp, ordering_then, nat_cmp_is, slice_cmp, nat_tests, drop-take, length-take-le, take-take, All-tail, All-drop, All-take}
use Rattle.id_digits.specs.Digits.{place, word}
use Rattle.id_digits.proofs.NumberParts.{then_assoc, then_equal, cmp_parts}
use Rattle.id_digits.proofs.DigitNumbers.{AreDigits, word-nil, word-cons, word_lt, word-split, word-take}

nat_cmp-suc : (a b : ℕ) → nat_cmp (suc a) (suc b) ≡ nat_cmp a b
nat_cmp-suc a b = grind (arith, nat_tests)

-- lists of at most n digits compare as their numbers do, and then as their lengths
pub slice_cmp-word : (n : ℕ) (ds es : List ℕ) → AreDigits ds → AreDigits es → length ds ≤ n → length es ≤ n
    → ordering_then (nat_cmp (word n ds) (word n es)) (nat_cmp (length ds) (length es)) ≡ slice_cmp nat_cmp ds es
slice_cmp-word n [] [] f g h k = rw word-nil refl
slice_cmp-word zero [] (e ∷ es) f g h k = absurd (omega arith)
slice_cmp-word zero (d ∷ ds) es f g h k = absurd (omega arith)
slice_cmp-word (suc n) [] (e ∷ es) f g h k = rw (word-nil (suc n)) (grind (arith, nat_tests))
slice_cmp-word (suc n) (d ∷ ds) [] f g h k = rw (word-nil (suc n)) (grind (arith, nat_tests))
slice_cmp-word (suc n) (d ∷ ds) (e ∷ es) f g h k =
    let first = All-tail (λ (x : ℕ). x < 16) d ds f in
    let second = All-tail (λ (x : ℕ). x < 16) e es g in
    let rest = slice_cmp-word n ds es first second (omega arith) (omega arith) in
    let parts = cmp_parts (16 ^ n) d (word n ds) e (word n es) (word_lt n ds first) (word_lt n es second) in
    rw (word-cons n d ds, word-cons n e es, parts, then_assoc, nat_cmp-suc (length ds) (length es), rest) refl

-- the order of the two words of some digits
abbrev pub words_cmp : List ℕ → List ℕ → Ordering
words_cmp ds es = ordering_then (nat_cmp (word 32 ds) (word 32 es)) (nat_cmp (word 32 (drop 32 ds)) (word 32 (drop 32 es)))

-- lists of at most 64 digits compare as their two words do, and then as their lengths
pub slice_cmp-words : (ds es : List ℕ) → AreDigits ds → AreDigits es → length ds ≤ 64 → length es ≤ 64
    → ordering_then (words_cmp ds es) (nat_cmp (length ds) (length es)) ≡ slice_cmp nat_cmp ds es
slice_cmp-words ds es f g h k =
    let parts = cmp_parts (16 ^ 32) (word 32 ds) (word 32 (drop 32 ds)) (word 32 es) (word 32 (drop 32 es))
    (word_lt 32 (drop 32 ds) (All-drop (λ (x : ℕ). x < 16) 32 ds f)) (word_lt 32 (drop 32 es) (All-drop (λ (x : ℕ). x < 16) 32 es g)) in
    let whole : nat_cmp (word 64 ds) (word 64 es) ≡ words_cmp ds es =
    (λ i. nat_cmp (word-split 32 32 ds i) (word-split 32 32 es i)) ∙ parts in
    ap (λ (o : Ordering). ordering_then o (nat_cmp (length ds) (length es))) (sym whole) ∙ slice_cmp-word 64 ds es f g h k

-- the place of at most 32 digits is that of their word against the masked word
pub place-first_word : (n : ℕ) (ds es : List ℕ) → AreDigits ds → AreDigits es → length ds ≡ n → n ≤ length es → n ≤ 32
    → place ds es ≡ nat_cmp (word 32 ds) (word 32 (take n es))
place-first_word n ds es f g is reach within =
    let cut = length-take-le n es reach in
    let whole = slice_cmp-word 32 ds (take n es) f (All-take (λ (x : ℕ). x < 16) n es g) (omega arith) (omega arith) in
    let ties = sym (nat_cmp_is (length ds) (length (take n es)) Equal (is ∙ sym cut)) in
    ap (λ (k : ℕ). slice_cmp nat_cmp ds (take k es)) is ∙ sym whole
    ∙ ap (ordering_then (nat_cmp (word 32 ds) (word 32 (take n es)))) ties
    ∙ then_equal (nat_cmp (word 32 ds) (word 32 (take n es)))

-- the place of more digits is that of the whole first words, and then of the second against the masked second
pub place-words : (n : ℕ) (ds es : List ℕ) → AreDigits ds → AreDigits es → length ds ≡ n → n ≤ length es → 32 ≤ n → n ≤ 64
    → place ds es ≡ ordering_then (nat_cmp (word 32 ds) (word 32 es)) (nat_cmp (word 32 (drop 32 ds)) (word 32 (take (n - 32) (drop 32 es))))
place-words n ds es f g is reach from within =
    let cut = length-take-le n es reach in
    let whole = slice_cmp-words ds (take n es) f (All-take (λ (x : ℕ). x < 16) n es g) (omega arith) (omega arith) in
    let ties = sym (nat_cmp_is (length ds) (length (take n es)) Equal (is ∙ sym cut)) in
    let first : word 32 (take n es) ≡ word 32 es =
    sym (word-take 32 (take n es)) ∙ ap (word 32) (take-take 32 n es from) ∙ word-take 32 es in
    let more : 32 + (n - 32) ≡ n = omega arith in
    let second : drop 32 (take n es) ≡ take (n - 32) (drop 32 es) = rw more at (drop-take 32 (n - 32) es) in
    ap (λ (k : ℕ). slice_cmp nat_cmp ds (take k es)) is ∙ sym whole
    ∙ ap (ordering_then (words_cmp ds (take n es))) ties ∙ then_equal (words_cmp ds (take n es))
    ∙ (λ i. ordering_then (nat_cmp (word 32 ds) (first i)) (nat_cmp (word 32 (drop 32 ds)) (word 32 (second i))))
