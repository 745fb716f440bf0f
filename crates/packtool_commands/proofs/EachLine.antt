-- What is written for lines, line by line.
use Rattle.gix_hash.proofs.Std.{◌≡◌, ℕ, ◌++◌, ◌∷◌, [], AllZip, Appends, List, None, Option, Some, ap, codes, flat_map, flat_map-map, map, option_to_list, refl, subst, sym}
use Rattle.std.specs.Prelude.{MatchOption, is_some}
use Rattle.id_lookup.specs.Words.{Kind, KindDigits}
use Rattle.packtool_commands.specs.Stores.{HasAnsweredBy, HasAnsweredEach, IsTextOf, answer_of, answers_by, found_text, line_with, marked, prefix_of, prefixes_of, with_found}
use Rattle.packtool_commands.specs.declared.printing.Wanted.{Wanted}
use Rattle.packtool_commands.specs.declared.printing.Wanted.TheVariants.{All as AllOfThem, Bare, BareOne, One}
use Rattle.packtool_commands.specs.declared.printing.NoAnswer.{NoAnswer}

-- the texts of what was found are those of what it is seen as
pub text_seen : {X Y : Type 0} (text : List ℕ → Y → List ℕ) (f : X → Y) (wanted : Wanted) (line : List ℕ) (found : List X)
    → found_text (λ front x. text front (f x)) wanted line found ≡ found_text text wanted line (map f found)
text_seen text f AllOfThem line [] = refl
text_seen text f AllOfThem line (x ∷ xs) = sym (flat_map-map (text (line ++ 32 ∷ [])) f (x ∷ xs))
text_seen text f One line [] = refl
text_seen text f One line (x ∷ []) = refl
text_seen text f One line (x ∷ (y ∷ xs)) = refl
text_seen text f Bare line xs = sym (flat_map-map (text []) f xs)
text_seen text f BareOne line [] = refl
text_seen text f BareOne line (x ∷ []) = refl
text_seen text f BareOne line (x ∷ (y ∷ xs)) = refl

module _ {X : Type 0} (Finds : List ℕ → X → Type 0) (text : List ℕ → X → List ℕ) (kind : Kind) where
  abbrev AreFor : List KindDigits → List X → Type 0
  AreFor prefixes found = AllZip (λ (prefix : KindDigits). Finds prefix.digits) prefixes found

  -- the texts for lines, by what was found for the prefixes among them
  abbrev HasTexts : List (List ℕ) → List X → Type 0
  HasTexts lines found = (texts : List (List ℕ)) × AllZip (IsTextOf Finds text kind) lines texts
      × (flat_map (answer_of text) (with_found (marked kind lines) found) ≡ flat_map (λ (one : List ℕ). one) texts)

  first_text : (line : List ℕ) (lines : List (List ℕ)) (prefix : Option KindDigits) (found : List X) → AreFor (option_to_list prefix ++ prefixes_of kind lines) found
      → ((rest : List X) → AreFor (prefixes_of kind lines) rest → HasTexts lines rest)
      → (one : List ℕ) × (texts : List (List ℕ))
      × MatchOption prefix (one ≡ line_with line (codes "bad")) (λ p. (x : X) × Finds p.digits x × (one ≡ text line x))
      × AllZip (IsTextOf Finds text kind) lines texts
      × (flat_map (answer_of text) (with_found ((line, is_some prefix) ∷ marked kind lines) found) ≡ one ++ flat_map (λ (one : List ℕ). one) texts)
  first_text line lines None found are more =
      let rest = more found are in
      (line_with line (codes "bad"), rest.0, refl, rest.1, ap (λ (r : List ℕ). line_with line (codes "bad") ++ r) rest.2)
  first_text line lines (Some p) [] are more = absurd are
  first_text line lines (Some p) (x ∷ found) are more =
      let rest = more found are.1 in (text line x, rest.0, (x, are.0, refl), rest.1, ap (λ (r : List ℕ). text line x ++ r) rest.2)

  texts_of : (lines : List (List ℕ)) (found : List X) → AreFor (prefixes_of kind lines) found → HasTexts lines found
  texts_of [] found are = ([], tt, refl)
  texts_of (line ∷ lines) found are =
      let one = first_text line lines (prefix_of kind line) found are (texts_of lines) in (one.0 ∷ one.1, (one.2, one.3), one.4)

  pub answered_each : (lacks : X → Option NoAnswer) (lines : List (List ℕ)) (why : Option NoAnswer) (old new : Option (List ℕ))
      → HasAnsweredBy (AreFor (prefixes_of kind lines)) text lacks kind lines why old new → HasAnsweredEach (IsTextOf Finds text kind) lines old new
  unfolding answers_by
  answered_each lacks lines why old new has =
      let all = texts_of lines has.results has.are_found in record { texts = all.0; each = all.1; written = subst (Appends old new) all.2 has.written }
