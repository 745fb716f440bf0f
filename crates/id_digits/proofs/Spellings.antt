-- Spellings: their lengths, letters and first digits.
use Rattle.id_digits.proofs.Std.{◌++◌, ◌≤◌, ◌≡◌, ℕ, ◌/◌, ◌%◌, ◌<◌, List, [], ◌∷◌, length, take, min, ap, ◌∙◌, arith, IsAscii, All, length-map, take_min, take-map, take-append-le, All-nil, All-cons, All-head, All-tail, nat_tests}
use Rattle.std.proofs.lemmas.Str.Ascii.{IsAscii-nil, IsAscii-cons}
use Rattle.id_digits.specs.Digits.{digits_of, spelling, hex_letter}

-- a spelling has a letter a digit
pub length-spelling : (letter : ℕ → ℕ) (ds : List ℕ) → length (spelling letter ds) ≡ length ds
length-spelling letter ds = length-map ds letter

-- the digits of bytes are below sixteen
pub All-digits_of : (bytes : List ℕ) → All (λ b. b < 256) bytes → All (λ d. d < 16) (digits_of bytes)
unfolding digits_of
All-digits_of [] h = All-nil (λ (d : ℕ). d < 16)
All-digits_of (b ∷ bytes) h =
    let fits : b < 256 = All-head (λ (x : ℕ). x < 256) b bytes h in
    let more = All-digits_of bytes (All-tail (λ (x : ℕ). x < 256) b bytes h) in
    All-cons (λ (d : ℕ). d < 16) (b / 16) (b % 16 ∷ digits_of bytes) (omega arith)
    (All-cons (λ (d : ℕ). d < 16) (b % 16) (digits_of bytes) (omega arith) more)

-- a spelling in letters that are ASCII is ASCII
pub IsAscii-spelling : (letter : ℕ → ℕ) → ((d : ℕ) → d < 16 → letter d < 128) → (ds : List ℕ) → All (λ d. d < 16) ds → IsAscii (spelling letter ds)
IsAscii-spelling letter ascii [] h = IsAscii-nil
IsAscii-spelling letter ascii (d ∷ ds) h =
    IsAscii-cons (letter d) (spelling letter ds) (ascii d (All-head (λ (x : ℕ). x < 16) d ds h))
    (IsAscii-spelling letter ascii ds (All-tail (λ (x : ℕ). x < 16) d ds h))

-- the hex spelling of digits is ASCII
pub IsAscii-hex_digits : (ds : List ℕ) → All (λ d. d < 16) ds → IsAscii (spelling hex_letter ds)
IsAscii-hex_digits ds h = IsAscii-spelling hex_letter (λ d lt. grind (arith, nat_tests)) ds h

-- a spelling in front of other bytes, cut at a number of letters or at its end, spells the first digits
pub take-spelling : (letter : ℕ → ℕ) (n : ℕ) (ds rest : List ℕ)
    → take (min n (length ds)) (spelling letter ds ++ rest) ≡ spelling letter (take n ds)
take-spelling letter n ds rest =
    let len = length-spelling letter ds in
    let within : min n (length ds) ≤ length (spelling letter ds) = omega arith in
    take-append-le (min n (length ds)) (spelling letter ds) rest within
    ∙ take-map letter (min n (length ds)) ds ∙ ap (spelling letter) (take_min n ds)
