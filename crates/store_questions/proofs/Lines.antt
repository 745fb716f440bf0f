-- The lines of texts that are put together.
use Rattle.gix_hash.proofs.Std.{◌≡◌, ◌∙◌, ℕ, All, All-head, All-nil, All-push, All-tail, Bool, List, [], ◌∷◌, ◌++◌, ap, append-nil, append_assoc, arith, cond, eqb-true, false, refl, subst, sym, true}
use Rattle.std.proofs.lemmas.Bool.{false≢true}
use Rattle.streams.specs.Streams.{lines_of}
use Rattle.streams.proofs.LineLemmas.{lines_of-ended, lines_of-last, lines_of-nil}
use Rattle.store_questions.specs.WholeLines.{AreWhole, is_line_feed, last_after, made_whole}
use Rattle.store_questions.proofs.LineLemmas.{last-append}

abbrev IsPlain : ℕ → Type 0
IsPlain byte = is_line_feed byte ≡ false

last-plain : (before : ℕ) (bytes : List ℕ) → IsPlain before → All IsPlain bytes → IsPlain (last_after before bytes)
last-plain before [] plain all = plain
last-plain before (byte ∷ bytes) plain all = last-plain byte bytes (All-head IsPlain byte bytes all) (All-tail IsPlain byte bytes all)

-- a line that ends in a line feed and has none is empty
none-left : (line : List ℕ) → All IsPlain line → last_after 10 line ≡ 10 → line ≡ []
none-left [] all last = refl
none-left (byte ∷ bytes) all last =
    absurd (false≢true (sym (last-plain byte bytes (All-head IsPlain byte bytes all) (All-tail IsPlain byte bytes all)) ∙ ap is_line_feed last))

-- a text gives its lines, and more, with this after it
abbrev AreJoined : List ℕ → List (List ℕ) → List ℕ → Type 0
AreJoined ys more xs = lines_of (xs ++ ys) ≡ lines_of xs ++ more

-- after the line feed of a line come the lines of what is after it
joined-ended : (ys : List ℕ) (more : List (List ℕ)) (line xs : List ℕ) (x : ℕ) → All IsPlain line → x ≡ 10 → AreJoined ys more xs → AreJoined ys more (line ++ x ∷ xs)
joined-ended ys more line xs x plain feed rest =
    let ended : (after : List ℕ) → lines_of (line ++ x ∷ after) ≡ line ∷ lines_of after =
    λ after. subst (λ b. lines_of (line ++ b ∷ after) ≡ line ∷ lines_of after) (sym feed) (lines_of-ended line after plain) in
    ap lines_of (append_assoc line (x ∷ xs) ys) ∙ ended (xs ++ ys) ∙ ap (λ (ls : List (List ℕ)). line ∷ ls) rest
    ∙ sym (ap (λ (ls : List (List ℕ)). ls ++ more) (ended xs))

-- it is so of each text whose last byte is such a one, if it is so of a last line
module _ (ys : List ℕ) (more : List (List ℕ)) (IsLast : ℕ → Type 0) (joined : (line : List ℕ) → All IsPlain line → IsLast (last_after 10 line) → AreJoined ys more line) where
  lines-from : (line xs : List ℕ) → All IsPlain line → IsLast (last_after (last_after 10 line) xs) → AreJoined ys more (line ++ xs)
  lines-from line [] plain is = subst (AreJoined ys more) (sym (append-nil line)) (joined line plain is)
  lines-from line (x ∷ xs) plain is =
      by (is_line_feed x) refl (λ feed. lines-from [] xs (All-nil IsPlain) (subst (λ b. IsLast (last_after b xs)) feed is))
      (λ more_plain. lines-from (line ++ x ∷ []) xs (All-push IsPlain line x plain more_plain)
      (subst IsLast (sym (ap (λ b. last_after b xs) (last-append 10 line (x ∷ [])))) is))
    where
      by : (test : Bool) → is_line_feed x ≡ test → (x ≡ 10 → AreJoined ys more xs) → (IsPlain x → AreJoined ys more ((line ++ x ∷ []) ++ xs)) → AreJoined ys more (line ++ x ∷ xs)
      by true is ended on = let feed : x ≡ 10 = eqb-true x 10 is in joined-ended ys more line xs x plain feed (ended feed)
      by false is ended on = subst (AreJoined ys more) (append_assoc line (x ∷ []) xs) (on is)

-- after whole lines come the lines of what is after them
pub lines-append : (xs ys : List ℕ) → AreWhole xs → lines_of (xs ++ ys) ≡ lines_of xs ++ lines_of ys
lines-append xs ys whole = lines-from ys (lines_of ys) (λ last. last ≡ 10)
    (λ line plain is. subst (AreJoined ys (lines_of ys)) (sym (none-left line plain is)) (sym (ap (λ (ls : List (List ℕ)). ls ++ lines_of ys) lines_of-nil)))
    [] xs (All-nil IsPlain) whole

-- a line feed at the end makes no line more
line-ended : (line : List ℕ) → All IsPlain line → IsPlain (last_after 10 line) → AreJoined (10 ∷ []) [] line
line-ended [] plain is = absurd (false≢true (sym is))
line-ended (x ∷ xs) plain is = let line : List ℕ = x ∷ xs in
    lines_of-ended line [] plain ∙ ap (λ (ls : List (List ℕ)). line ∷ ls) lines_of-nil ∙ sym (append-nil (lines_of line) ∙ lines_of-last line (omega arith) plain)

pub lines-made_whole : (text : List ℕ) → lines_of (made_whole text) ≡ lines_of text
lines-made_whole text = by (is_line_feed (last_after 10 text)) refl
  where
    by : (is_ended : Bool) → is_line_feed (last_after 10 text) ≡ is_ended → lines_of (cond is_ended text (text ++ 10 ∷ [])) ≡ lines_of text
    by true is = refl
    by false is = lines-from (10 ∷ []) [] IsPlain line-ended [] text (All-nil IsPlain) is ∙ append-nil (lines_of text)

-- and whole lines after whole lines are whole
pub whole-append : (xs ys : List ℕ) → AreWhole xs → AreWhole ys → AreWhole (xs ++ ys)
whole-append xs ys whole then = last-append 10 xs ys ∙ ap (λ b. last_after b ys) whole ∙ then
