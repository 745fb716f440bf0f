-- The first line of a text, and those after it.
use Rattle.gix_hash.proofs.Std.{◌≡◌, ◌≢◌, ℕ, ◌+◌, ◌<◌, ◌≤◌, ◌⊎◌, inl, inr, false, List, [], ◌∷◌, ◌++◌, length, refl, sym, ap, ◌∙◌, arith, All, cases_lt, nat_tests, length-drop, nil_from_length, take_all, fails_before_first, after_first, before_first, position_or_len, slice_split}
use Rattle.std.proofs.lemmas.List.Splits.{slice_split_at, slice_split_first, slice_split_none, length-slice_split}
use Rattle.streams.specs.Streams.{lines_of, is_line_feed, without_empty_last}

-- a first part that ends is followed by the other lines
without_empty_last-cons : (part : List ℕ) (parts : List (List ℕ)) → parts ≢ [] → without_empty_last (part ∷ parts) ≡ part ∷ without_empty_last parts
without_empty_last-cons part [] h = absurd (h refl)
without_empty_last-cons part (next ∷ parts) h = refl

-- a text has at least one part
slice_split-some : (text : List ℕ) → slice_split is_line_feed text ≢ []
slice_split-some text e = absurd (omega (arith, length-slice_split is_line_feed text, ap length e))

-- a last part that is not empty stays
without_empty_last-kept : (part : List ℕ) → 0 < length part → without_empty_last (part ∷ []) ≡ part ∷ []
without_empty_last-kept part some = grind (arith, nat_tests)

-- the empty text has no line
pub lines_of-nil : lines_of [] ≡ []
unfolding lines_of
lines_of-nil = refl

-- a text that begins with a line and its line feed
pub lines_of-ended : (line rest : List ℕ) → All (λ b. is_line_feed b ≡ false) line → lines_of (line ++ 10 ∷ rest) ≡ line ∷ lines_of rest
unfolding lines_of
lines_of-ended line rest none =
    ap without_empty_last (slice_split_at is_line_feed line 10 rest none refl)
    ∙ without_empty_last-cons line (slice_split is_line_feed rest) (slice_split-some rest)

-- a text without a line feed is a line, if it is not empty
pub lines_of-last : (line : List ℕ) → 0 < length line → All (λ b. is_line_feed b ≡ false) line → lines_of line ≡ line ∷ []
unfolding lines_of
lines_of-last line some none = ap without_empty_last (slice_split_none is_line_feed line none) ∙ without_empty_last-kept line some

-- a text that has a line feed: the bytes before it and the lines of those after it
lines_of-first : (text : List ℕ) → position_or_len is_line_feed text < length text
    → lines_of text ≡ before_first is_line_feed text ∷ lines_of (after_first is_line_feed text)
unfolding lines_of
lines_of-first text inside =
    let after = after_first is_line_feed text in
    ap without_empty_last (slice_split_first is_line_feed text 0 inside)
    ∙ without_empty_last-cons (before_first is_line_feed text) (slice_split is_line_feed after) (slice_split-some after)

-- the first line of a text that is not empty, and those after it
pub lines_step : (text : List ℕ) → 0 < length text → lines_of text ≡ before_first is_line_feed text ∷ lines_of (after_first is_line_feed text)
lines_step text some = by (cases_lt (position_or_len is_line_feed text) (length text))
  where
    by : ((position_or_len is_line_feed text < length text) ⊎ (length text ≤ position_or_len is_line_feed text))
        → lines_of text ≡ before_first is_line_feed text ∷ lines_of (after_first is_line_feed text)
    by (inl inside) = lines_of-first text inside
    by (inr outside) =
        let whole = take_all (position_or_len is_line_feed text) text outside in
        let none : after_first is_line_feed text ≡ [] =
        nil_from_length (after_first is_line_feed text) (omega (arith, length-drop (position_or_len is_line_feed text + 1) text, outside)) in
        lines_of-last text some (λ k e low. fails_before_first is_line_feed text k e (omega (arith, low, outside)))
        ∙ (λ i. sym whole i ∷ sym (ap lines_of none ∙ lines_of-nil) i)
