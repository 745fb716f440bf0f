-- Ids that are located one after the other.
use Rattle.gix_hash.proofs.Std.{◌≡◌, ◌∙◌, ℕ, ◌+◌, ◌<◌, ◌≤◌, ◌⊎◌, inl, inr, true, nat_eq, None, Option, Some, List, [], ◌∷◌, ◌++◌, length, get_or, map, take, sym, ap, subst, All, Contains, starts_with, map-append, take_more, All-push, All-take, Contains-get_or}
use Rattle.id_lookup.specs.Words.{ObjectId, first_byte_of, id_digits, id_kind}
use Rattle.id_lookup.proofs.Beginnings.{first_byte_of-begins}
use Rattle.object_store.specs.Stores.{AreMatches, HaveBuckets, IsLocateFault, IsStoreFault, StoreView}
use Rattle.object_store.specs.Several.{IsLocated, IsLocationsFault, limited_to}
use Rattle.object_store.proofs.Whole.{found_begins}
use Rattle.object_store.specs.declared.error.Error.{Error}
use Rattle.object_store.specs.declared.locations.LocatedId.{LocatedId}

-- these are the first of the ids that begin with the digits
module _ (view : StoreView) (digits : List ℕ) (limit : Option ℕ) (ids first : List ObjectId) (are : AreMatches view digits ids) (is : first ≡ limited_to limit ids) where
  all_first : (P : ObjectId → Type 0) → All P ids → All P first
  all_first P all = subst (All P) (sym is) (by limit)
    where
      by : (n : Option ℕ) → All P (limited_to n ids)
      by None = all
      by (Some n) = All-take P n ids all

  pub first_kinds : All (λ id. id_kind id ≡ view.kind) first
  first_kinds = all_first (λ id. id_kind id ≡ view.kind) are.kinds

  -- they have the first byte of the digits
  pub first_bytes : 2 ≤ length digits → All (λ id. first_byte_of (id_digits id) ≡ first_byte_of digits) first
  first_bytes enough at d low =
      first_byte_of-begins (id_digits (get_or first at d)) digits enough
      (all_first (λ id. starts_with nat_eq (id_digits id) digits ≡ true) (found_begins view digits ids are) at d low)

  -- why one of them is not located is why all of them are not
  pub fault_of_first : (at : ℕ) (d : ObjectId) (error : Error) → 2 ≤ length digits → at < length first
      → IsStoreFault view (first_byte_of (id_digits (get_or first at d))) error
      ⊎ (HaveBuckets view (first_byte_of (id_digits (get_or first at d))) × IsLocateFault view (id_digits (get_or first at d)) error)
      → IsLocationsFault limit view digits error
  fault_of_first at d error enough low (inl fault) = inl (subst (λ (b : ℕ). IsStoreFault view b error) (first_bytes enough at d low) fault)
  fault_of_first at d error enough low (inr both) =
      inr (ids, are, get_or first at d, subst (λ (some : List ObjectId). Contains some (get_or first at d)) is (Contains-get_or first at d low), both.1)

-- one more id is located
pub located_more : {A : Type 0} (view : StoreView) (paths : List ℕ → List (List ℕ)) (at : ℕ) (ids : List ObjectId) (d : ObjectId) (located more : List (LocatedId A))
    (one : LocatedId A) → more ≡ located ++ one ∷ [] → at < length ids → one.id ≡ get_or ids at d → IsLocated view paths one
    → map (λ (l : LocatedId A). l.id) located ≡ take at ids → All (IsLocated view paths) located
    → (map (λ (l : LocatedId A). l.id) more ≡ take (at + 1) ids) × All (IsLocated view paths) more
located_more {A} view paths at ids d located more one is low same this before all = (
  ap (map (λ (l : LocatedId A). l.id)) is ∙ map-append (λ (l : LocatedId A). l.id) located (one ∷ [])
      ∙ ap (λ (front : List ObjectId). front ++ one.id ∷ []) before ∙ ap (λ (i : ObjectId). take at ids ++ i ∷ []) same ∙ sym (take_more ids at d low),
  subst (All (IsLocated view paths)) (sym is) (All-push (IsLocated view paths) located one all this),
)
