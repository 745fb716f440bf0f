-- What is printed by the first of what was found, which is what is printed by all of it.
use Rattle.gix_hash.proofs.Std.{◌≡◌, ◌∙◌, ◌∷◌, ◌≤◌, ◌⊎◌, [], ℕ, inl, inr, true, false, Bool, AllZip, List, None, Option, Some, ap, arith, flat_map, flat_map-map, length, length-take, map, refl, sum_by, sym}
use Rattle.std.proofs.lemmas.List.Folds.{fold-map}
use Rattle.std.proofs.lemmas.List.Sums.{sum_by-cons}
use Rattle.std.specs.Option.{option_map_or, option_or}
use Rattle.std.specs.Prelude.{Vec, fold}
use Rattle.id_lookup.specs.Words.{Kind, KindDigits, ObjectId}
use Rattle.object_store.specs.Several.{AreFirstMatches, limited_to}
use Rattle.object_store.specs.Stores.{AreMatches, AreMatchesOfEach, HaveMore, HaveMoreMatches, StoreView}
use Rattle.packtool_commands.specs.Stores.{answer_of, answers_by, found_text, limit_for, marked, no_answer, no_answer_by, with_found}
use Rattle.packtool_commands.specs.declared.printing.Wanted.{Wanted}
use Rattle.packtool_commands.specs.declared.printing.NoAnswer.{NoAnswer}
use Rattle.packtool_commands.specs.declared.printing.NoAnswer.TheVariants.{Bad}
use Rattle.packtool_commands.proofs.AnswerLemmas.{no_answer_of_first, text_of_first}

-- lines by what was found are lines by what else was found, if no two of these differ
with_same : {X Y : Type 0} (Same : X → X → Type 0) (h : List ℕ × Option X → Y) → ((line : List ℕ) (x y : X) → Same x y → h (line, Some x) ≡ h (line, Some y))
    → (lines : List (List ℕ × Bool)) (xs ys : List X) → AllZip Same xs ys → map h (with_found lines xs) ≡ map h (with_found lines ys)
with_same Same h are [] xs ys each = refl
with_same Same h are ((line, false) ∷ lines) xs ys each = ap (λ rest. h (line, None) ∷ rest) (with_same Same h are lines xs ys each)
with_same Same h are ((line, true) ∷ lines) [] [] each = refl
with_same Same h are ((line, true) ∷ lines) [] (y ∷ ys) each = absurd each
with_same Same h are ((line, true) ∷ lines) (x ∷ xs) [] each = absurd each
with_same Same h are ((line, true) ∷ lines) (x ∷ xs) (y ∷ ys) each = λ i. are line x y each.0 i ∷ with_same Same h are lines xs ys each.1 i

short : {X : Type 0} (limit : Option ℕ) (xs : List X) → length (limited_to limit xs) ≤ length xs
short None xs = omega arith
short (Some n) xs = omega (arith, length-take n xs)

abbrev Ids : Type 0 → Type 0
Ids A = Vec ObjectId A

abbrev size : {A : Type 0} → Ids A → ℕ
size ids = length ids.items

module _ {A : Type 0} (wanted : Wanted) where
  -- the ids are the first of the others
  abbrev AreFirstOf : Ids A → Ids A → Type 0
  AreFirstOf first ids = first.items ≡ limited_to (limit_for wanted) ids.items

  abbrev FindsFirst : StoreView → KindDigits → Ids A → Type 0
  FindsFirst view prefix first = AreFirstMatches (limit_for wanted) view prefix.digits first

  -- all ids of which the first ones were found
  pub all_of : (view : StoreView) (prefixes : List KindDigits) (found : List (Ids A)) → AllZip (FindsFirst view) prefixes found
      → (all : List (Ids A)) × AreMatchesOfEach view prefixes all × AllZip AreFirstOf found all
  all_of view [] [] each = ([], tt, tt)
  all_of view [] (first ∷ found) each = absurd each
  all_of view (prefix ∷ prefixes) [] each = absurd each
  all_of view (prefix ∷ prefixes) (first ∷ found) each =
      let rest = all_of view prefixes found each.1 in (each.0.ids ∷ rest.0, (each.0.are_matches, rest.1), (each.0.first_are, rest.2))

  -- they print the same
  pub same_answers : (text : List ℕ → ObjectId → List ℕ) (kind : Kind) (lines : List (List ℕ)) (found all : List (Ids A)) → AllZip AreFirstOf found all
      → answers_by (λ line (ids : Ids A). found_text text wanted line ids.items) kind lines found ≡ answers_by (λ line (ids : Ids A). found_text text wanted line ids.items) kind lines all
  unfolding answers_by
  same_answers text kind lines found all each =
      let h : List ℕ × Option (Ids A) → List ℕ = answer_of (λ line ids. found_text text wanted line ids.items) in
      sym (flat_map-map (λ (part : List ℕ). part) h (with_found (marked kind lines) found))
      ∙ ap (flat_map (λ (part : List ℕ). part)) (with_same AreFirstOf h (λ line x y are. ap (found_text text wanted line) are ∙ text_of_first text wanted line y.items) (marked kind lines) found all each)
      ∙ flat_map-map (λ (part : List ℕ). part) h (with_found (marked kind lines) all)

  -- and lack the same answer
  pub same_why : (kind : Kind) (lines : List (List ℕ)) (found all : List (Ids A)) → AllZip AreFirstOf found all
      → no_answer_by (λ (ids : Ids A). no_answer wanted ids.items) kind lines found ≡ no_answer_by (λ (ids : Ids A). no_answer wanted ids.items) kind lines all
  unfolding no_answer_by
  same_why kind lines found all each =
      let h : List ℕ × Option (Ids A) → Option NoAnswer = λ answer. option_map_or (λ ids. no_answer wanted ids.items) answer.1 (Some Bad) in
      sym (fold-map option_or h None (with_found (marked kind lines) found))
      ∙ ap (fold option_or None) (with_same AreFirstOf h (λ line x y are. ap (no_answer wanted) are ∙ no_answer_of_first wanted y.items) (marked kind lines) found all each)
      ∙ fold-map option_or h None (with_found (marked kind lines) all)

  -- if the first ids of some prefixes are more than `most`, then so are all of them
  more_of : (view : StoreView) (prefixes : List KindDigits) (some : List (Ids A)) → AllZip (λ prefix first. FindsFirst view prefix first ⊎ (size first ≡ 0)) prefixes some
      → (all : List (Ids A)) × AllZip (λ (prefix : KindDigits) ids. AreMatches view prefix.digits ids.items ⊎ (size ids ≡ 0)) prefixes all × (sum_by size some ≤ sum_by size all)
  more_of view [] [] each = ([], tt, omega arith)
  more_of view [] (first ∷ some) each = absurd each
  more_of view (prefix ∷ prefixes) [] each = absurd each
  more_of view (prefix ∷ prefixes) (first ∷ some) each =
      let rest = more_of view prefixes some each.1 in elim each.0 [
        | inl are ↦ (are.ids ∷ rest.0, (inl are.are_matches, rest.1), omega (arith, sum_by-cons size first some, sum_by-cons size are.ids rest.0, rest.2, ap length are.first_are, short (limit_for wanted) are.ids.items))
        | inr none ↦ (first ∷ rest.0, (inr none, rest.1), omega (arith, sum_by-cons size first some, sum_by-cons size first rest.0, rest.2))
      ]

  pub have_more : (view : StoreView) (most : ℕ) (prefixes : List KindDigits)
      → HaveMore (λ digits first. AreFirstMatches {A = A} (limit_for wanted) view digits first) size most prefixes → HaveMoreMatches A view most prefixes
  have_more view most prefixes more =
      let all = more_of view prefixes more.some more.each in record { some = all.0; each = all.1; more = omega (arith, all.2, more.more) }
