-- What is printed for one line that is a prefix.
use Rattle.gix_hash.proofs.Std.{◌≡◌, ℕ, ◌++◌, ◌∷◌, [], AllZip, Appends, List, None, Option, Some, append-nil, flat_map, flat_map-map, map, option_to_list, is_some, subst, sym}
use Rattle.std.specs.Prelude.{Vec, fold}
use Rattle.id_lookup.specs.Words.{Kind, KindDigits, ObjectId, hex_letter, id_digits}
use Rattle.object_store.specs.Stores.{AreMatches, StoreView}
use Rattle.streams.specs.Streams.{line_of, printed}
use Rattle.packtool_commands.specs.Stores.{HasAnsweredBy, HasAnsweredMatches, answer_of, answers_by, no_answer, no_answer_by, prefix_of, prefixes_of, with_found}
use Rattle.packtool_commands.specs.declared.printing.Wanted.TheVariants.{Bare}
use Rattle.packtool_commands.specs.declared.printing.NoAnswer.{NoAnswer}
use Rattle.packtool_commands.proofs.AnswerLemmas.{first_why}

module _ {X : Type 0} (Finds : KindDigits → X → Type 0) (text : List ℕ → X → List ℕ) (lacks : X → Option NoAnswer) (line : List ℕ) (prefix : KindDigits)
    (why : Option NoAnswer) (old new : Option (List ℕ)) where
  -- what was found for the prefix was printed
  abbrev pub IsOne : Type 0
  IsOne = (found : X) × Finds prefix found × (why ≡ lacks found) × Appends old new (text line found)

  -- it was, if this is the prefix that the line is
  abbrev IsOneOf : Option KindDigits → Type 0
  IsOneOf o =
      (results : List X) → AllZip Finds (option_to_list o ++ []) results
      → why ≡ fold (first_why lacks) None (with_found ((line, is_some o) ∷ []) results)
      → Appends old new (flat_map (answer_of text) (with_found ((line, is_some o) ∷ []) results)) → IsOne

  one : IsOneOf (Some prefix)
  one [] found first written = absurd found
  one (x ∷ []) found first written = (x, found.0, first, subst (Appends old new) (append-nil (text line x)) written)
  one (x ∷ (other ∷ more)) found first written = absurd found.1

  pub one-found : (kind : Kind) → prefix_of kind line ≡ Some prefix
      → HasAnsweredBy (AllZip Finds (prefixes_of kind (line ∷ []))) text lacks kind (line ∷ []) why old new → IsOne
  unfolding answers_by no_answer_by
  one-found kind is has = subst IsOneOf (sym is) one has.results has.are_found has.first has.written

-- the lines of the ids that begin with a prefix were written
pub bare-printed : {A : Type 0} (view : StoreView) (line : List ℕ) (prefix : KindDigits) (why : Option NoAnswer) (old new : Option (List ℕ))
    → prefix_of view.kind line ≡ Some prefix → HasAnsweredMatches A Bare view (line ∷ []) why old new
    → (ids : List ObjectId) × AreMatches view prefix.digits ids × (why ≡ no_answer Bare ids) × Appends old new (printed hex_letter (map id_digits ids))
bare-printed {A} view line prefix why old new is has =
    let found = one-found (λ prefix (ids : Vec ObjectId A). AreMatches view prefix.digits ids.items) _ _ line prefix why old new view.kind is has in
    (found.0.items, found.1, found.2, subst (Appends old new) (sym (flat_map-map (line_of hex_letter) id_digits found.0.items)) found.3)
