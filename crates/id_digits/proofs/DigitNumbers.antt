-- The number that digits write: its parts, its size, the bits of a digit in it, and the bytes that make it.
use Rattle.id_digits.proofs.Std.{◌≡◌, ℕ, zero, suc, ◌+◌, ◌-◌, ◌*◌, ◌/◌, ◌%◌, ◌^◌, ◌<◌, ◌≤◌, List, [], ◌∷◌, ◌++◌, length, take, drop, get_or, replicate, refl, sym, ap, ◌∙◌, arith, All, pow-suc, mul-le-mul_right, add-mul, mul_assoc, drop_all, drop-replicate, length-take, get_or-drop, All-head, All-tail, All-drop}
use Rattle.std.proofs.lemmas.Nat.{pow-add, div-mul-add, mod-mul-add}
use Rattle.id_digits.specs.Digits.{digits_of, word}
use Rattle.id_digits.proofs.ByteDigits.{length-digits_of}

-- digits are below sixteen
abbrev pub AreDigits : List ℕ → Type 0
AreDigits ds = All (λ d. d < 16) ds

pub word-nil : (n : ℕ) → word n [] ≡ 0
unfolding word
word-nil zero = refl
word-nil (suc n) = refl

pub word-cons : (n d : ℕ) (ds : List ℕ) → word (suc n) (d ∷ ds) ≡ d * 16 ^ n + word n ds
unfolding word
word-cons n d ds = refl

pub word-zero : (ds : List ℕ) → word 0 ds ≡ 0
unfolding word
word-zero ds = refl

pow16-pos : (n : ℕ) → 0 < 16 ^ n
pow16-pos zero = omega arith
pow16-pos (suc n) = omega (arith, pow-suc 16 n, pow16-pos n)

-- a digit is four binary digits
pub pow16 : (n : ℕ) → 16 ^ n ≡ 2 ^ (4 * n)
pow16 zero = refl
pow16 (suc n) =
    let four : 4 * suc n ≡ 4 * n + 4 = omega arith in
    rw (pow-suc 16 n, pow16 n, four, pow-add 2 (4 * n) 4) refl

-- a byte is two digits
pow256 : (n : ℕ) → 256 ^ n ≡ 16 ^ (2 * n)
pow256 zero = refl
pow256 (suc n) =
    let two : 2 * suc n ≡ 2 * n + 2 = omega arith in
    rw (pow-suc 256 n, pow256 n, two, pow-add 16 (2 * n) 2) refl

-- n digits write a number below 16 ^ n
pub word_lt : (n : ℕ) (ds : List ℕ) → AreDigits ds → word n ds < 16 ^ n
word_lt zero ds h = omega (arith, word-zero ds)
word_lt (suc n) [] h = omega (arith, word-nil (suc n), pow16-pos (suc n))
word_lt (suc n) (d ∷ ds) h =
    let digit : d < 16 = All-head (λ (x : ℕ). x < 16) d ds h in
    let more = word_lt n ds (All-tail (λ (x : ℕ). x < 16) d ds h) in
    let top : (d + 1) * 16 ^ n ≤ 16 * 16 ^ n = mul-le-mul_right (16 ^ n) (omega arith) in
    omega (arith, word-cons n d ds, more, pow-suc 16 n, top, add-mul d 1 (16 ^ n))

-- the number in two parts
pub word-split : (m n : ℕ) (ds : List ℕ) → word (m + n) ds ≡ word m ds * 16 ^ n + word n (drop m ds)
word-split zero n ds =
    let none : 0 + n ≡ n = omega arith in
    rw (none, word-zero ds) (omega arith)
word-split (suc m) n [] = rw (word-nil (suc m + n), word-nil (suc m), word-nil n) (omega arith)
word-split (suc m) n (d ∷ ds) =
    let more : suc m + n ≡ suc (m + n) = omega arith in
    rw (more, word-cons (m + n) d ds, word-cons m d ds, word-split m n ds, pow-add 16 m n)
    (omega (arith, mul_assoc d (16 ^ m) (16 ^ n), add-mul (d * 16 ^ m) (word m ds) (16 ^ n)))

-- digits past n do not count
pub word-take : (n : ℕ) (ds : List ℕ) → word n (take n ds) ≡ word n ds
word-take zero ds = omega (arith, word-zero ds, word-zero (take 0 ds))
word-take (suc n) [] = refl
word-take (suc n) (d ∷ ds) = rw (word-cons n d ds, word-cons n d (take n ds), word-take n ds) refl

-- to keep k digits is to clear the rest
pub word-cut : (k j : ℕ) (ds : List ℕ) → AreDigits ds → word (k + j) (take k ds) ≡ word (k + j) ds / 16 ^ j * 16 ^ j
word-cut k j ds h =
    let none : drop k (take k ds) ≡ [] = drop_all k (take k ds) (omega (arith, length-take k ds)) in
    let low : word j (drop k ds) < 16 ^ j = word_lt j (drop k ds) (All-drop (λ (x : ℕ). x < 16) k ds h) in
    rw (
      word-split k j (take k ds),
      none,
      word-nil j,
      word-take k ds,
      word-split k j ds,
      div-mul-add (word k ds) (16 ^ j) (word j (drop k ds)) low,
    )
    (omega arith)

-- digits that leave off early
word-short : (m n : ℕ) (ds : List ℕ) → length ds ≤ m → word (m + n) ds ≡ word m ds * 16 ^ n
word-short m n ds h = rw (word-split m n ds, drop_all m ds h, word-nil n) (omega arith)

word-zeros : (n m : ℕ) → word n (replicate m 0) ≡ 0
word-zeros zero m = word-zero (replicate m 0)
word-zeros (suc n) zero = word-nil (suc n)
word-zeros (suc n) (suc m) = rw (word-cons n 0 (replicate m 0), word-zeros n m) (omega arith)

-- zeros after the digits do not count
pub word-padded : (n m : ℕ) (ds : List ℕ) → word n (ds ++ replicate m 0) ≡ word n ds
word-padded n m [] = word-zeros n m ∙ sym (word-nil n)
word-padded zero m (d ∷ ds) = word-zero (d ∷ (ds ++ replicate m 0)) ∙ sym (word-zero (d ∷ ds))
word-padded (suc n) m (d ∷ ds) = rw (word-cons n d (ds ++ replicate m 0), word-cons n d ds, word-padded n m ds) refl

-- and so for the digits from the k-th on
pub word-padded_from : (n k m : ℕ) (ds : List ℕ) → word n (drop k (ds ++ replicate m 0)) ≡ word n (drop k ds)
word-padded_from n zero m ds = word-padded n m ds
word-padded_from n (suc k) m [] =
    rw (drop-replicate {X = ℕ} (suc k) m 0) (word-zeros n (m - suc k)) ∙ sym (word-nil n)
word-padded_from n (suc k) m (d ∷ ds) = word-padded_from n k m ds

-- the number in the n bytes from the i-th on, the highest first
abbrev pub big_from : ℕ → ℕ → List ℕ → ℕ
big_from i zero bytes = 0
big_from i (suc n) bytes = get_or bytes i 0 * 256 ^ n + big_from (suc i) n bytes

-- a byte in front moves the indices on
big_from-cons : (i n b : ℕ) (bytes : List ℕ) → big_from (suc i) n (b ∷ bytes) ≡ big_from i n bytes
big_from-cons i zero b bytes = refl
big_from-cons i (suc n) b bytes = ap (λ (r : ℕ). get_or bytes i 0 * 256 ^ n + r) (big_from-cons (suc i) n b bytes)

big_from-nil : (i n : ℕ) → big_from i n [] ≡ 0
big_from-nil i zero = refl
big_from-nil i (suc n) = omega (arith, big_from-nil (suc i) n)

-- a byte in front is its two digits in front
byte_digits : (b n r : ℕ) → b / 16 * 16 ^ suc (2 * n) + (b % 16 * 16 ^ (2 * n) + r) ≡ b * 256 ^ n + r
byte_digits b n r =
    let whole : b / 16 * 16 + b % 16 ≡ b = omega arith in
    let parts : (b / 16 * 16 + b % 16) * 16 ^ (2 * n) ≡ b * 16 ^ (2 * n) = ap (λ (x : ℕ). x * 16 ^ (2 * n)) whole in
    rw (pow256 n, pow-suc 16 (2 * n))
    (omega (arith, parts, add-mul (b / 16 * 16) (b % 16) (16 ^ (2 * n)), mul_assoc (b / 16) 16 (16 ^ (2 * n))))

-- the number of n bytes, the highest first, is that of their digits
pub word-bytes : (n : ℕ) (bytes : List ℕ) → word (2 * n) (digits_of bytes) ≡ big_from 0 n bytes
unfolding digits_of
word-bytes zero bytes = word-zero (digits_of bytes)
word-bytes (suc n) [] = rw (word-nil (2 * suc n), big_from-nil 0 (suc n)) refl
word-bytes (suc n) (b ∷ bytes) =
    let two : 2 * suc n ≡ suc (suc (2 * n)) = omega arith in
    rw (
      two,
      word-cons (suc (2 * n)) (b / 16) (b % 16 ∷ digits_of bytes),
      word-cons (2 * n) (b % 16) (digits_of bytes),
      word-bytes n bytes,
      big_from-cons 0 n b bytes,
    )
    (byte_digits b n (big_from 0 n bytes))

-- four bytes, moved to the bits of the first eight digits
pub word-four : (bytes : List ℕ) (front : ℕ) → AreDigits (digits_of bytes) → length bytes ≡ 4 → front ≡ big_from 0 4 bytes
    → front * 2 ^ 96 % 2 ^ 128 ≡ word 32 (digits_of bytes)
word-four bytes front h four is =
    let same = word-bytes 4 bytes in
    let small : word 8 (digits_of bytes) < 16 ^ 8 = word_lt 8 (digits_of bytes) h in
    let whole : word 32 (digits_of bytes) ≡ word 8 (digits_of bytes) * 16 ^ 24 =
    word-short 8 24 (digits_of bytes) (omega (arith, length-digits_of bytes)) in
    omega (arith, is, same, small, whole)

word-head : (n : ℕ) (ds : List ℕ) → word (suc n) ds ≡ get_or ds 0 0 * 16 ^ n + word n (drop 1 ds)
word-head n [] = rw (word-nil (suc n), word-nil n) (omega arith)
word-head n (d ∷ ds) = word-cons n d ds

head-below : (ds : List ℕ) → AreDigits ds → get_or ds 0 0 < 16
head-below [] h = omega arith
head-below (d ∷ ds) h = All-head (λ (x : ℕ). x < 16) d ds h

-- the digit with i digits before it and j after it
pub word-digit : (i j : ℕ) (ds : List ℕ) → AreDigits ds → word (i + suc j) ds / 16 ^ j % 16 ≡ get_or ds i 0
word-digit i j ds h =
    let es : List ℕ = drop i ds in
    let d : ℕ = get_or es 0 0 in
    let below : AreDigits es = All-drop (λ (x : ℕ). x < 16) i ds h in
    let low : word j (drop 1 es) < 16 ^ j = word_lt j (drop 1 es) (All-drop (λ (x : ℕ). x < 16) 1 es below) in
    let whole : word (i + suc j) ds ≡ (word i ds * 16 + d) * 16 ^ j + word j (drop 1 es) =
    rw (word-split i (suc j) ds, pow-suc 16 j, word-head j es)
    (omega (arith, add-mul (word i ds * 16) d (16 ^ j), mul_assoc (word i ds) 16 (16 ^ j))) in
    let at : i + 0 ≡ i = omega arith in
    let same : d ≡ get_or ds i 0 = rw at at (get_or-drop i ds 0 0) in
    let digit : (word i ds * 16 + d) % 16 ≡ d = mod-mul-add (word i ds) 16 d (head-below es below) in
    rw (whole, div-mul-add (word i ds * 16 + d) (16 ^ j) (word j (drop 1 es)) low, digit) same
