-- What was found in each pack index and among the loose ids are the locations of the object.
use Rattle.gix_hash.proofs.Std.{◌≡◌, ℕ, suc, ◌+◌, Bool, Option, None, Some, List, [], ◌∷◌, ◌++◌, length, get_or, take, refl, sym, ap, ◌∙◌, subst, arith, All, AllZip, length-take-le}
use Rattle.std.proofs.lemmas.Slice.Zip.{AllZip-long}
use Rattle.std.specs.Option.{ForSome}
use Rattle.id_lookup.specs.Words.{first_byte_of}
use Rattle.object_store.specs.Stores.{HasOffsetOf, IsLocationFault, StoreView, in_packs}
use Rattle.object_store.specs.declared.locations.Location.{Location}
use Rattle.object_store.specs.declared.locations.Location.TheVariants.{Packed}
use Rattle.object_store.proofs.Held.{IsPackAt}
use Rattle.object_store.proofs.Zipped.{zipped_at, zipped_more}
use Rattle.pack_index.specs.Lazy.{HasBucket, IsOffsetFault, IndexView, Tables, position_of}
use Rattle.pack_index.specs.declared.lazy_error.LazyError.{LazyError}
use Rattle.pack_index.specs.declared.lazy_error.LazyError.TheVariants.{NoOffset, Read}

-- why the offset of an id is not read that has this position
pub offset_fault : (can_fail : Bool) (tables : Tables) (id : List ℕ) (at : ℕ) (e : LazyError) → HasBucket tables (first_byte_of id) → Some at ≡ position_of id tables
    → IsOffsetFault can_fail tables at e → IsLocationFault can_fail tables id e
offset_fault can_fail tables id at (Read e) bucket there fault = fault
offset_fault can_fail tables id at (NoOffset k) bucket there (same, low, none) = (bucket, sym there ∙ ap Some (sym same), ap tables.offset same ∙ none)
offset_fault can_fail tables id at _ bucket there fault = absurd fault

-- this is the offset that the index of a pack has, or none, if its tables are known
abbrev pub IsOffsetAt : List ℕ → IndexView → Option ℕ → Type 0
IsOffsetAt id pack offset = ForSome pack.tables (HasOffsetOf id offset)

-- the first packs have these locations, at offsets that their indexes have
abbrev pub ArePacked : StoreView → List ℕ → ℕ → List Location → Type 0
ArePacked view id n locations = (offsets : List (Option ℕ)) × AllZip (IsOffsetAt id) (take n view.packs) offsets × (locations ≡ in_packs 0 offsets)

-- one offset more adds its location, or none
in_packs_more : (n at : ℕ) (offsets : List (Option ℕ)) (offset : Option ℕ) → at ≡ n + length offsets → in_packs n (offsets ++ offset ∷ []) ≡ in_packs n offsets ++ in_packs at (offset ∷ [])
in_packs_more n at [] offset is = let same : n ≡ at = omega (arith, is) in ap (λ m. in_packs m (offset ∷ [])) same
in_packs_more n at (None ∷ offsets) offset is = in_packs_more (suc n) at offsets offset (omega (arith, is))
in_packs_more n at (Some first ∷ offsets) offset is = ap (λ (rest : List Location). Packed n first ∷ rest) (in_packs_more (suc n) at offsets offset (omega (arith, is)))

-- one pack more adds its location, or none
pub packed_more : (view : StoreView) (id : List ℕ) (at : ℕ) (pack : IndexView) (offset : Option ℕ) (old new : List Location) → IsPackAt view.packs at pack
    → IsOffsetAt id pack offset → ArePacked view id at old → new ≡ old ++ in_packs at (offset ∷ []) → ArePacked view id (at + 1) new
packed_more view id at pack offset old new here found before all =
    let R : IndexView → Option ℕ → Type 0 = IsOffsetAt id in
    let many : at ≡ length before.0 = omega (arith, AllZip-long R (take at view.packs) before.0 before.1, length-take-le at view.packs (omega (arith, here.low))) in (
      before.0 ++ offset ∷ [],
      zipped_more R view.packs at pack before.0 (before.0 ++ offset ∷ []) offset here.low before.1 (subst (λ (p : IndexView). R p offset) here.is found) refl,
      all ∙ ap (λ (front : List Location). front ++ in_packs at (offset ∷ [])) before.2 ∙ sym (in_packs_more 0 at before.0 offset (omega (arith, many))),
    )

-- the indexes of the first packs have an offset, or none
pub have_offsets : (view : StoreView) (id : List ℕ) (n : ℕ) (locations : List Location) → ArePacked view id n locations
    → All (λ (pack : IndexView). ForSome pack.tables (λ tables. (offset : Option ℕ) × HasOffsetOf id offset tables)) (take n view.packs)
have_offsets view id n locations are k d low tables known =
    (get_or are.0 k None, zipped_at (IsOffsetAt id) (take n view.packs) are.0 are.1 k d None low tables known)
