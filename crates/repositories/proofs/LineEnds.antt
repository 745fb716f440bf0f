-- Texts without the line feeds and carriage returns at their ends.
use Rattle.gix_hash.proofs.Std.{◌≡◌, ◌⊎◌, ◌<◌, ◌+◌, ◌-◌, ◌++◌, ◌∷◌, [], ℕ, true, List, Option, Some, None, IfSome, length, take, get_or, refl, sym, ap, ◌∙◌, inl, inr, arith, nat_tests, Bool, cases_Bool, true≢false, length-take, take-length, take-take, take_more}
use Rattle.std.specs.Char.{char_set_contains, encode_utf8, len_utf8}
use Rattle.std.specs.List.{suffix_len}
use Rattle.std.specs.Str.Pattern.{CutsSuffixes, FindsSuffixBy, IsTrimEndMatches}
use Rattle.std.proofs.lemmas.List.Sums.{suffix_len-take_no, suffix_len-take_yes}
use Rattle.repositories.specs.Discovery.{is_line_end, without_line_ends}

abbrev test : ℕ → Bool
test = char_set_contains (10 ∷ 13 ∷ [])

which : (c : ℕ) → is_line_end c ≡ true → (c ≡ 10) ⊎ (c ≡ 13)
which c is = grind (arith, nat_tests)

ends : (c : ℕ) → test c ≡ true → is_line_end c ≡ true
ends c is = grind (arith, nat_tests)

narrow : (c : ℕ) → test c ≡ true → len_utf8 c ≡ 1
narrow c is = grind (arith, nat_tests)

small : (c : ℕ) → test c ≡ true → c < 128
small c is = grind (arith, nat_tests)

-- a match at the end of a text is one byte, which ends a line
cut_one : (m : List ℕ) (n : ℕ) → FindsSuffixBy test m (Some n) → without_line_ends m ≡ without_line_ends (take (length m - n) m)
cut_one m n (c, is, at) =
    let one : length m ≡ (length m - n) + 1 = at.ends ∙ ap (λ k. (length m - n) + k) (narrow c is) in
    let before : length m - n ≡ length m - 1 = omega (arith, one) in
    let last : is_line_end (get_or m (length m - 1) 0) ≡ true = ap (λ k. is_line_end (get_or m k 0)) (sym before) ∙ ap is_line_end (at.byte (small c is)) ∙ ends c is in
    let more : suffix_len is_line_end (take (length m) m) ≡ 1 + suffix_len is_line_end (take (length m - 1) m) = suffix_len-take_yes is_line_end m (length m) 0 (omega (arith, one)) (omega arith) last in
    let all : suffix_len is_line_end m ≡ 1 + suffix_len is_line_end (take (length m - n) m) = ap (suffix_len is_line_end) (sym (take-length m)) ∙ more ∙ ap (λ k. 1 + suffix_len is_line_end (take k m)) (sym before) in
    let len : length (take (length m - n) m) ≡ length m - n = length-take (length m - n) m ∙ omega arith in
    let same : length m - suffix_len is_line_end m ≡ length (take (length m - n) m) - suffix_len is_line_end (take (length m - n) m) = omega (arith, all, len, one) in
    ap (λ k. take k m) same ∙ sym (take-take _ (length m - n) m (omega (arith, len)))

-- a text with no match at its end has none of these bytes there
none_left : (r : List ℕ) (o : Option ℕ) → FindsSuffixBy test r o → IfSome o (λ n. n ≡ 0) → suffix_len is_line_end r ≡ 0
unfolding encode_utf8
none_left r (Some n) (c, is, at) zero = let wide = narrow c is in absurd (omega (arith, at.ends, wide, zero))
none_left [] None finds none = refl
none_left (first ∷ rest) None finds none =
    let r = first ∷ rest in
    let byte = get_or r (length r - 1) 0 in
    let on : length r ≡ (length r - 1) + 1 = omega arith in
    let split : r ≡ take (length r - 1) r ++ byte ∷ [] = sym (take-length r) ∙ ap (λ k. take k r) on ∙ take_more r (length r - 1) 0 (omega arith) in
    elim (cases_Bool (is_line_end byte)) [
      | inl is_end ↦ elim (which byte is_end) [
        | inl is ↦ absurd (true≢false (finds 10 (take (length r - 1) r) refl (split ∙ ap (λ b. take (length r - 1) r ++ b ∷ []) is)))
        | inr is ↦ absurd (true≢false (finds 13 (take (length r - 1) r) refl (split ∙ ap (λ b. take (length r - 1) r ++ b ∷ []) is)))
      ]
      | inr other ↦ ap (suffix_len is_line_end) (sym (take-length r)) ∙ suffix_len-take_no is_line_end r (length r) 0 (omega arith) (omega arith) other
    ]

-- a match of the two characters at the end of a text
abbrev Matches : List ℕ → Option ℕ → Type 0
Matches s o = (k : ℕ → Bool) → ((c : ℕ) → char_set_contains (10 ∷ 13 ∷ []) c ≡ k c) → FindsSuffixBy k s o

cut_all : (s ns r : List ℕ) → CutsSuffixes Matches s ns r → without_line_ends s ≡ without_line_ends r
cut_all s [] r is = ap without_line_ends (sym is)
cut_all s (n ∷ ns) r (m, cuts, found, is) = cut_all s ns m cuts ∙ cut_one m n (found test (λ c. refl)) ∙ ap without_line_ends (sym is)

pub trimmed : (s r : List ℕ) → IsTrimEndMatches Matches s r → r ≡ without_line_ends s
trimmed s r ((ns, cuts), (o, found, none)) =
    let zero = none_left r o (found test (λ c. refl)) none in
    let whole : length r - suffix_len is_line_end r ≡ length r = omega (arith, zero) in
    sym (cut_all s ns r cuts ∙ ap (λ k. take k r) whole ∙ take-length r)
