-- The lines of the ids of a store with their abbreviations, a part after the other.
use Rattle.gix_hash.proofs.Std.{◌≡◌, ◌≢◌, ℕ, zero, suc, ◌+◌, Bool, Option, List, [], ◌∷◌, ◌++◌, refl, sym, subst, ◌⊎◌, inl, inr, append-nil, arith, ◌↔◌, IsTrue, flat_map, Appends, Appends-trans, flat_map-append, cases_lt}
use Rattle.object_store.specs.Several.{AreAbbreviated}
use Rattle.object_store.specs.Stores.{HaveBuckets, StoreView}
use Rattle.pack_index.specs.Format.{Each}
use Rattle.object_store.specs.declared.abbreviations.AbbreviatedId.{AbbreviatedId}
use Rattle.object_store.proofs.PartIds.{have_read}
use Rattle.packtool_commands.specs.Stores.{AreAbbreviatedBelow, HasAbbreviatedAtMost, HasAbbreviatedBelow, abbreviated_line}
use Rattle.streams.specs.Streams.{AppendsAtMost, AppendsBeginning}
use Rattle.streams.proofs.WritingLemmas.{AppendsBeginning-after, part_written}

-- the ids with one first byte more have their abbreviations
pub abbreviated_below_more : (n least : ℕ) (Sees : StoreView → Type 0) (seen : StoreView) (abbreviated more : List AbbreviatedId) → AreAbbreviatedBelow n least Sees abbreviated → Sees seen
    → AreAbbreviated least seen n more → AreAbbreviatedBelow (n + 1) least Sees (abbreviated ++ more)
unfolding AreAbbreviatedBelow
abbreviated_below_more n least Sees seen abbreviated more before sees are =
    let next : suc n ≡ n + 1 = omega arith in subst (λ m. AreAbbreviatedBelow m least Sees (abbreviated ++ more)) next (abbreviated, more, seen, before, sees, are, refl)

pub none_below : (least : ℕ) (Sees : StoreView → Type 0) → AreAbbreviatedBelow 0 least Sees []
unfolding AreAbbreviatedBelow
none_below least Sees = refl

-- the pack indexes that were seen have the ids that are counted with these bytes
pub below_sound : (n least : ℕ) (Sees : StoreView → Type 0) (abbreviated : List AbbreviatedId) → AreAbbreviatedBelow n least Sees abbreviated
    → Each (λ lower. (seen : StoreView) × Sees seen × HaveBuckets seen lower) n
unfolding AreAbbreviatedBelow
below_sound zero least Sees abbreviated are k low = absurd (omega (arith, low))
below_sound (suc n) least Sees abbreviated are k low = elim (cases_lt k n) [
  | inl less ↦ below_sound n least Sees are.0 are.3 k less
  | inr from ↦ let same : n ≡ k = omega (arith, low, from) in (are.2, are.4, subst (HaveBuckets are.2) same (have_read are.2 n are.5.read are.5.ids_read))
]

-- what was seen of a store once was seen of it later
below_seen : (n least : ℕ) (Sees SeesThen : StoreView → Type 0) (abbreviated : List AbbreviatedId) → ((view : StoreView) → Sees view → SeesThen view)
    → AreAbbreviatedBelow n least Sees abbreviated → AreAbbreviatedBelow n least SeesThen abbreviated
unfolding AreAbbreviatedBelow
below_seen zero least Sees SeesThen abbreviated later are = are
below_seen (suc n) least Sees SeesThen abbreviated later are = (are.0, are.1, are.2, below_seen n least Sees SeesThen are.0 later are.3, later are.2 are.4, are.5, are.6)

pub abbreviated_seen : (n least : ℕ) (Sees SeesThen : StoreView → Type 0) (any : Bool) (old new : Option (List ℕ)) → ((view : StoreView) → Sees view → SeesThen view)
    → HasAbbreviatedBelow n least Sees any old new → HasAbbreviatedBelow n least SeesThen any old new
abbreviated_seen n least Sees SeesThen any old new later has =
    record { abbreviated = has.abbreviated; are_abbreviated = below_seen n least Sees SeesThen has.abbreviated later has.are_abbreviated; found = has.found; written = has.written }

some_of : {X : Type 0} (xs ys : List X) → (xs ++ ys ≢ []) ↔ ((xs ≢ []) ⊎ (ys ≢ []))
some_of [] ys = (λ some. inr some, λ some. elim some [ inl none ↦ absurd (none refl) | inr some ↦ some ])
some_of (x ∷ xs) ys = (λ some. inl (λ none. cc), λ some none. cc)

module _ (n least : ℕ) (Sees : StoreView → Type 0) (any : Bool) (a b : Option (List ℕ)) (before : HasAbbreviatedBelow n least Sees any a b) where
  -- all of the lines so far are a beginning
  pub abbreviated_at_most : HasAbbreviatedAtMost least Sees a b
  abbreviated_at_most = record {
    n = n;
    abbreviated = before.abbreviated;
    are_abbreviated = before.are_abbreviated;
    written = record {
      part = flat_map abbreviated_line before.abbreviated;
      rest = [];
      is_beginning = sym (append-nil (flat_map abbreviated_line before.abbreviated));
      written = before.written;
    };
  }

  module _ (seen : StoreView) (c : Option (List ℕ)) (more : List AbbreviatedId) (sees : Sees seen) (are : AreAbbreviated least seen n more) where
    -- the next lines were written after them
    pub has_abbreviated_more : (any' : Bool) → (IsTrue any' ↔ (IsTrue any ⊎ (more ≢ []))) → Appends b c (flat_map abbreviated_line more) → HasAbbreviatedBelow (n + 1) least Sees any' a c
    has_abbreviated_more any' some written = record {
      abbreviated = before.abbreviated ++ more;
      are_abbreviated = abbreviated_below_more n least Sees seen before.abbreviated more before.are_abbreviated sees are;
      found = (
        λ is. (some_of before.abbreviated more).1 (elim (some.0 is) [ inl was ↦ inl (before.found.0 was) | inr is ↦ inr is ]),
        λ is. some.1 (elim ((some_of before.abbreviated more).0 is) [ inl was ↦ inl (before.found.1 was) | inr is ↦ inr is ]),
      );
      written = subst (Appends a c) (sym (flat_map-append abbreviated_line before.abbreviated more))
          (Appends-trans a b c (flat_map abbreviated_line before.abbreviated) (flat_map abbreviated_line more) before.written written);
    }

    -- a part of them was
    pub abbreviated_part : AppendsBeginning b c (flat_map abbreviated_line more) → HasAbbreviatedAtMost least Sees a c
    abbreviated_part part = record {
      n = n + 1;
      abbreviated = before.abbreviated ++ more;
      are_abbreviated = abbreviated_below_more n least Sees seen before.abbreviated more before.are_abbreviated sees are;
      written = subst (AppendsAtMost a c) (sym (flat_map-append abbreviated_line before.abbreviated more))
          (part_written a c (flat_map abbreviated_line before.abbreviated ++ flat_map abbreviated_line more)
          (AppendsBeginning-after a b c (flat_map abbreviated_line before.abbreviated) (flat_map abbreviated_line more) before.written part));
    }
