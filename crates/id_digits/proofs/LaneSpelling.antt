-- The letters of bytes, computed lane by lane, and stored in two parts.
use Rattle.id_digits.proofs.Std.{◌≡◌, ℕ, ◌+◌, ◌-◌, ◌*◌, ◌/◌, ◌%◌, ◌≤◌, List, [], ◌∷◌, ◌++◌, map, length, take, drop, refl, sym, ap, ap₂, subst, ◌∙◌, arith, length-drop, put_chunk, pick_l, length-map, length-take-le, take_all, take-take, take-map, drop-map, take-append-drop, length-put_chunk, take_more_put_chunk, pick_l_whole}
use Rattle.id_digits.specs.Digits.{digits_of, hex_letter, spelling}
use Rattle.id_digits.proofs.ByteDigits.{length-digits_of, take-digits_of, drop-digits_of}

-- the indices of the letters of sixteen bytes, among those of their high halves and then of their low halves
abbrev pub in_turn : List ℕ
in_turn = 0 ∷ 16 ∷ 1 ∷ 17 ∷ 2 ∷ 18 ∷ 3 ∷ 19 ∷ 4 ∷ 20 ∷ 5 ∷ 21 ∷ 6 ∷ 22 ∷ 7 ∷ 23 ∷ 8 ∷ 24 ∷ 9 ∷ 25 ∷ 10 ∷ 26 ∷ 11 ∷ 27 ∷ 12 ∷ 28 ∷ 13 ∷ 29 ∷ 14 ∷ 30 ∷ 15 ∷ 31 ∷ []

-- the letters of both halves, in turn, spell the bytes
pub spelled_in_turn : (v high low : List ℕ) → length v ≡ 16 → high ≡ map (λ b. hex_letter (b / 16)) v → low ≡ map (λ b. hex_letter (b % 16)) v
    → pick_l 0 (high ++ low) in_turn ≡ spelling hex_letter (digits_of v)
unfolding digits_of
spelled_in_turn v high low long highs lows =
    ap₂ (λ a b. pick_l 0 (a ++ b) in_turn) highs lows
    ∙ subst (λ w. pick_l 0 (map (λ b. hex_letter (b / 16)) w ++ map (λ b. hex_letter (b % 16)) w) in_turn ≡ spelling hex_letter (digits_of w))
    (pick_l_whole 0 v 16 long) refl

-- the first 32 of a list and then those from the kth on, each stored where they belong, are the list
stored_parts : (k : ℕ) (whole old : List ℕ) → length old ≡ length whole → k ≤ 32 → k + 32 ≡ length whole
    → put_chunk k (put_chunk 0 old (take 32 whole)) (drop k whole) ≡ whole
stored_parts k whole old room few long =
    let first = put_chunk 0 old (take 32 whole) in
    let n = length whole in
    let cut : length (take 32 whole) ≡ 32 = length-take-le 32 whole (omega arith) in
    let size : length first ≡ n = length-put_chunk 0 old (take 32 whole) ∙ room in
    let begun : take 32 first ≡ take 32 whole = take_more_put_chunk 0 old (take 32 whole) 32 (omega arith) (omega arith) in
    let kept : take k first ≡ take k whole = sym (take-take k 32 first few) ∙ ap (take k) begun ∙ take-take k 32 whole few in
    sym (take_all n (put_chunk k first (drop k whole)) (omega (arith, length-put_chunk k first (drop k whole))))
    ∙ take_more_put_chunk k first (drop k whole) n (omega (arith, length-drop k whole)) (omega arith)
    ∙ ap (λ l. l ++ drop k whole) kept ∙ take-append-drop k whole

-- the letters of the first sixteen bytes and then those of the last sixteen, each stored where they belong, are all letters
pub stored_whole : (n : ℕ) (bytes old : List ℕ) → length bytes ≡ n → length old ≡ 2 * n → 16 ≤ n → n ≤ 32
    → put_chunk (2 * (n - 16)) (put_chunk (2 * 0) old (spelling hex_letter (digits_of (take 16 (drop 0 bytes))))) (spelling hex_letter (digits_of (take 16 (drop (n - 16) bytes))))
    ≡ spelling hex_letter (digits_of bytes)
stored_whole n bytes old long room least most =
    let whole = spelling hex_letter (digits_of bytes) in
    let k = 2 * (n - 16) in
    let count : length whole ≡ 2 * n = length-map (digits_of bytes) hex_letter ∙ length-digits_of bytes ∙ ap (λ m. 2 * m) long in
    let front : spelling hex_letter (digits_of (take 16 bytes)) ≡ take 32 whole =
    ap (map hex_letter) (sym (take-digits_of 16 bytes)) ∙ sym (take-map hex_letter 32 (digits_of bytes)) in
    let rest : spelling hex_letter (digits_of (take 16 (drop (n - 16) bytes))) ≡ drop k whole =
    ap (λ l. spelling hex_letter (digits_of l)) (take_all 16 (drop (n - 16) bytes) (omega (arith, length-drop (n - 16) bytes)))
    ∙ ap (map hex_letter) (sym (drop-digits_of (n - 16) bytes)) ∙ sym (drop-map hex_letter k (digits_of bytes)) in
    ap₂ (λ f r. put_chunk k (put_chunk 0 old f) r) front rest ∙ stored_parts k whole old (omega arith) (omega arith) (omega arith)
