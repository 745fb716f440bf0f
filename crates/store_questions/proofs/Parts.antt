-- What was written for a text in parts, one after the other.
use Rattle.gix_hash.proofs.Std.{ℕ, ◌≡◌, ◌≤◌, ◌∙◌, AllZip, Appends, Keeps, List, [], ◌∷◌, ◌++◌, Option, ap, append-nil, append_assoc, arith, flat_map, max, refl, subst, suc, sym, zero}
use Rattle.std.proofs.KnownBytes.{Appends-kept, Appends-nil, Appends-trans, Keeps-refl, Keeps-trans}
use Rattle.std.proofs.lemmas.Grind.{flat_map-append}
use Rattle.packtool_commands.specs.Stores.{HasAnsweredEach}
use Rattle.packtool_commands.specs.declared.printing.Wanted.{Wanted}
use Rattle.repositories.specs.Answers.{Answers}
use Rattle.streams.specs.Streams.{lines_of}
use Rattle.streams.proofs.LineLemmas.{lines_of-nil}
use Rattle.store_questions.specs.Answers.{HasAnsweredParts, IsAnswered}
use Rattle.store_questions.specs.WholeLines.{AreWhole}
use Rattle.store_questions.specs.declared.request.Query.{Query}
use Rattle.store_questions.proofs.Lines.{lines-append, whole-append}

zip-append : {X Y : Type 0} (P : X → Y → Type 0) (xs : List X) (ys : List Y) (xs' : List X) (ys' : List Y) → AllZip P xs ys → AllZip P xs' ys' → AllZip P (xs ++ xs') (ys ++ ys')
zip-append P [] [] xs' ys' all more = more
zip-append P [] (y ∷ ys) xs' ys' all more = absurd all
zip-append P (x ∷ xs) [] xs' ys' all more = absurd all
zip-append P (x ∷ xs) (y ∷ ys) xs' ys' all more = (all.0, zip-append P xs ys xs' ys' all.1 more)

module _ (IsText : List ℕ → List ℕ → Type 0) where
  abbrev HasTexts : List ℕ → Option (List ℕ) → Option (List ℕ) → Type 0
  HasTexts text old new = HasAnsweredEach IsText (lines_of text) old new

  abbrev one : List ℕ → List ℕ
  one text = text

  none-written : (old new : Option (List ℕ)) → Keeps old new → HasTexts [] old new
  none-written old new kept =
      record { texts = []; each = subst (λ (lines : List (List ℕ)). AllZip IsText lines []) (sym lines_of-nil) tt; written = Appends-kept old old new [] (Appends-nil old) kept }

  both-written : (xs ys : List ℕ) (old middle new : Option (List ℕ)) → AreWhole xs → HasTexts xs old middle → HasTexts ys middle new → HasTexts (xs ++ ys) old new
  both-written xs ys old middle new whole first then =
      record {
        texts = first.texts ++ then.texts;
        each = subst (λ (lines : List (List ℕ)). AllZip IsText lines (first.texts ++ then.texts)) (sym (lines-append xs ys whole))
            (zip-append IsText (lines_of xs) first.texts (lines_of ys) then.texts first.each then.each);
        written = subst (Appends old new) (sym (flat_map-append one first.texts then.texts))
            (Appends-trans old middle new (flat_map one first.texts) (flat_map one then.texts) first.written then.written);
      }

module _ {R : Type 0} (answers : R → Option Answers) (query : Query R) (wanted : Wanted) where
  abbrev Parts : ℕ → List ℕ → ℕ → Option (List ℕ) → Option (List ℕ) → Type 0
  Parts n text status old new = HasAnsweredParts answers query wanted n text status old new

  -- one part more is answered
  pub part-more : (n : ℕ) (before part : List ℕ) (worst own status : ℕ) (old middle new : Option (List ℕ)) → Parts n before worst old middle
      → IsAnswered answers query wanted (lines_of part) own middle new → AreWhole part → status ≡ max worst own → Parts (suc n) (before ++ part) status old new
  part-more n before part worst own status old middle new parts is whole worse =
      (before, part, worst, own, middle, new, parts, is, Keeps-refl new, whole, refl, worse)

  -- and what was written is kept
  pub parts-kept : (n : ℕ) (text : List ℕ) (status : ℕ) (old middle new : Option (List ℕ)) → Parts n text status old middle → Keeps middle new → Parts n text status old new
  parts-kept zero text status old middle new (none, found, kept) more = (none, found, Keeps-trans old middle new kept more)
  parts-kept (suc n) text status old middle new (before, part, worst, own, first, written, parts, is, kept, whole, text_is, worse) more =
      (before, part, worst, own, first, written, parts, is, Keeps-trans written middle new kept more, whole, text_is, worse)

  -- parts after other parts
  pub parts-append : (n m : ℕ) (xs ys : List ℕ) (worst own status : ℕ) (old middle new : Option (List ℕ)) → Parts n xs worst old middle → Parts m ys own middle new
      → status ≡ max worst own → (k : ℕ) × Parts k (xs ++ ys) status old new
  parts-append n zero xs ys worst own status old middle new parts (none, found, kept) worse =
      let same : worst ≡ status = omega (arith, worse, found) in (
        n,
        subst (λ (text : List ℕ). Parts n text status old new) (sym (ap (λ (more : List ℕ). xs ++ more) none ∙ append-nil xs))
            (subst (λ its. Parts n xs its old new) same (parts-kept n xs worst old middle new parts kept)),
      )
  parts-append n (suc m) xs ys worst own status old middle new parts (before, part, w, o, first, written, more, is, kept, whole, text_is, its) worse =
      let rest = parts-append n m xs before worst w (max worst w) old middle first parts more refl in (
        suc rest.0,
        (
          xs ++ before,
          part,
          max worst w,
          o,
          first,
          written,
          rest.1,
          is,
          kept,
          whole,
          ap (λ (text : List ℕ). xs ++ text) text_is ∙ sym (append_assoc xs before part),
          omega (arith, worse, its),
        ),
      )

  module _ (IsText : List ℕ → List ℕ → Type 0)
      (each : (lines : List (List ℕ)) (own : ℕ) (before after : Option (List ℕ)) → own ≤ 1 → IsAnswered answers query wanted lines own before after
      → HasAnsweredEach IsText lines before after) where
    -- what is written for each part is so for the text
    pub parts-written : (n : ℕ) (text : List ℕ) (status : ℕ) (old new : Option (List ℕ)) → status ≤ 1 → Parts n text status old new
        → AreWhole text × HasTexts IsText text old new
    parts-written zero text status old new low (none, found, kept) =
        (subst AreWhole (sym none) refl, subst (λ (t : List ℕ). HasTexts IsText t old new) (sym none) (none-written IsText old new kept))
    parts-written (suc n) text status old new low (before, part, worst, own, middle, written, parts, is, kept, whole, text_is, worse) =
        let first = parts-written n before worst old middle (omega (arith, low, worse)) parts in
        let last = each (lines_of part) own middle written (omega (arith, low, worse)) is in
        let then : HasTexts IsText part middle new = record { texts = last.texts; each = last.each; written = Appends-kept middle written new _ last.written kept } in (
          subst AreWhole (sym text_is) (whole-append before part first.0 whole),
          subst (λ (t : List ℕ). HasTexts IsText t old new) (sym text_is) (both-written IsText before part old middle new first.0 first.1 then),
        )
