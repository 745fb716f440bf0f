-- What is gathered of a store is what passes of the index of all its ids.
use Rattle.gix_hash.proofs.Std.{◌≡◌, ℕ, inl, inr, ◌+◌, ◌<◌, Bool, Option, None, Some, List, [], ◌∷◌, ◌++◌, length, get_or, map, filter, take, refl, sym, ap, ◌∙◌, subst, arith, append-nil, All, flat_map, get_or_default, get_or_from_slice_get, slice_get-get_or, slice_get_within, flat_map-append, get_or-append_seam, cases_lt, get_or-map, get_or_append_left, length-append, length-map, none-some, take_more, filter-append}
use Rattle.std.specs.Option.{ForSome}
use Rattle.id_lookup.specs.Words.{Kind, first_byte_of}
use Rattle.object_store.specs.Stores.{AreOfIndex, HasOffsetOf, Holds, IsFirstFault, IsIndexReadOrMemory, IsLocateFault, IsLocationFault, IsOfIndex, IsStoreFault, StoreView}
use Rattle.pack_index.specs.Lazy.{HasBucket, IndexView, IsBucketFault, LazyIndex, Tables, seen}
use Rattle.object_store.specs.declared.error.Error.{Error}
use Rattle.object_store.specs.declared.error.Error.TheVariants.{Memory}
use Rattle.pack_index.proofs.Buckets.{no_bucket_fault}
use Rattle.pack_index.proofs.Counted.{length-ids_in}
use Rattle.pack_index.proofs.LookedUp.{name_is}
use Rattle.pack_index.proofs.ReadOffsets.{has_offset}
use Rattle.pack_index.specs.Format.{offset_in}
use Rattle.pack_index.specs.Lazy as lazy
use Rattle.pack_index.specs.declared.lazy_error.LazyError.{LazyError}
use Rattle.pack_index.specs.declared.lazy_error.LazyError.TheVariants.{NoOffset}

pub filter-flat_map : {A X : Type 0} (p : X → Bool) (f : A → List X) (xs : List A) → filter p (flat_map f xs) ≡ flat_map (λ a. filter p (f a)) xs
filter-flat_map p f [] = refl
filter-flat_map {A} {X} p f (x ∷ xs) = filter-append p (f x) (flat_map f xs) ∙ ap (λ (rest : List X). filter p (f x) ++ rest) (filter-flat_map p f xs)

-- one list more is added to the lists of the first items
pub flat_map-take : {A X : Type 0} (f : A → List X) (xs : List A) (i : ℕ) (d : A) → i < length xs → flat_map f (take (i + 1) xs) ≡ flat_map f (take i xs) ++ f (get_or xs i d)
flat_map-take {A} {X} f xs i d low =
    ap (flat_map f) (take_more xs i d low) ∙ flat_map-append f (take i xs) (get_or xs i d ∷ [])
    ∙ ap (λ (last : List X). flat_map f (take i xs) ++ last) (append-nil (f (get_or xs i d)))

-- what holds of each item at its position, and of one more after them, holds of all
pub each-push : {X : Type 0} (P : ℕ → X → Type 0) (xs : List X) (x : X) → ((k : ℕ) (d : X) → k < length xs → P k (get_or xs k d)) → P (length xs) x
    → (k : ℕ) (d : X) → k < length (xs ++ x ∷ []) → P k (get_or (xs ++ x ∷ []) k d)
each-push P xs x each last k d low = elim (cases_lt k (length xs)) [
  | inl less ↦ subst (P k) (sym (get_or_append_left xs (x ∷ []) d k less)) (each k d less)
  | inr from ↦
      let here : length xs ≡ k = omega (arith, from, low, length-append xs (x ∷ [])) in
      subst (λ m. P m (get_or (xs ++ x ∷ []) m d)) here (subst (P (length xs)) (sym (get_or-append_seam xs x [] d)) last)
]

-- tables for places where none are
pub no_tables : Tables
no_tables = record { ids = []; up_to = λ _. 0; offset = λ _. None }

-- the tables of the pack index at a position are those at this position in the list of all
module _ (packs : List IndexView) (tables : List Tables) (same : map (λ (pack : IndexView). pack.tables) packs ≡ map Some tables) where
  pub as_many : length packs ≡ length tables
  as_many = sym (length-map packs (λ (pack : IndexView). pack.tables)) ∙ ap length same ∙ length-map tables Some

  pub known_at : (i : ℕ) (d : IndexView) → i < length packs → (get_or packs i d).tables ≡ Some (get_or tables i no_tables)
  known_at i d low =
      sym (get_or-map (λ (pack : IndexView). pack.tables) packs i d None low) ∙ ap (λ xs. get_or xs i None) same
      ∙ get_or-map Some tables i no_tables None (omega (arith, low, as_many))

-- a store has this pack index at a position
pub record IsPackAt (packs : List IndexView) (at : ℕ) (pack : IndexView) : Type 0 where
  pub low : at < length packs
  pub is : pack ≡ get_or packs at pack

-- a loop over the pack indexes finds the one that the store has at the position
pub pack_at : {packs : List IndexView} (given : List LazyIndex) {at : ℕ} {pack : LazyIndex} → map seen given ≡ packs → at < length given → pack ≡ get_or given at pack
    → IsPackAt packs at (seen pack)
pack_at {packs} given {at} {pack} value less here =
    subst (λ (ps : List IndexView). IsPackAt ps at (seen pack)) value
    (record { low = omega (arith, less, length-map given seen); is = ap seen here ∙ sym (get_or-map seen given at pack (seen pack) less) })

pub pack_here : {packs : List IndexView} {at : ℕ} (d : IndexView) → at < length packs → IsPackAt packs at (get_or packs at d)
pack_here {packs} {at} d low = record { low = low; is = get_or_default packs at d (get_or packs at d) low }

-- the pack index at a position has what is asked for, as those before it have, or is the first that does not have it
pub fault_at : (Has : Tables → Type 0) (HasFault : Bool → Tables → LazyError → Type 0) (view : StoreView) {at : ℕ} {pack : IndexView} → IsPackAt view.packs at pack
    → All (λ (other : IndexView). ForSome other.tables Has) (take at view.packs) → (fault : LazyError) (e : Error) → ForSome pack.tables (λ tables. HasFault pack.can_fail tables fault)
    → IsOfIndex (get_or view.paths at []) fault e → IsFirstFault Has HasFault view e
fault_at Has HasFault view here before fault (Memory error) why is = tt
fault_at Has HasFault view {at} {pack} here before fault e why is = (at, pack, slice_get-get_or view.packs at pack here.low ∙ ap Some (sym here.is), before, fault, is, why)

-- a look-up in a store whose pack indexes are sound fails only because a read fails, or because memory runs out
no_first_fault : (Has : Tables → Type 0) (HasFault : Bool → Tables → LazyError → Type 0) (view : StoreView) (whole : List (List ℕ))
    (e : Error) → ((can_fail : Bool) (tables : Tables) (why : LazyError) → AreOfIndex view.kind tables → HasFault can_fail tables why → lazy.IsReadOrMemory can_fail why)
    → (h : Holds view whole) → All (AreOfIndex view.kind) h.are_known.tables → IsFirstFault Has HasFault view e → IsIndexReadOrMemory view e
no_first_fault Has HasFault view whole (Memory error) no_fault h sound first = tt
no_first_fault Has HasFault view whole e no_fault h sound first =
    let packs = view.packs in
    let at = first.0 in
    let pack = first.1 in
    let low : at < length packs = slice_get_within packs at pack first.2 in
    let inside : at < length h.are_known.tables = omega (arith, low, as_many packs h.are_known.tables h.are_known.known) in
    let tables = get_or h.are_known.tables at no_tables in
    let known : pack.tables ≡ Some tables = ap (λ (p : IndexView). p.tables) (sym (get_or_from_slice_get packs at pack pack first.2)) ∙ known_at packs h.are_known.tables h.are_known.known at pack low in
    (at, pack, first.2, first.4, first.5, no_fault pack.can_fail tables first.4 (sound at no_tables inside) (first.6 tables known))

no_store_fault_at : (kind : Kind) (byte : ℕ) (can_fail : Bool) (tables : Tables) (e : LazyError) → AreOfIndex kind tables → IsBucketFault can_fail tables byte e → lazy.IsReadOrMemory can_fail e
no_store_fault_at kind byte can_fail tables e sound fault =
    no_bucket_fault can_fail kind sound.0 byte e sound.2 (subst (λ (t : Tables). IsBucketFault can_fail t byte e) sound.1 fault)

pub no_store_fault : (view : StoreView) (whole : List (List ℕ)) (byte : ℕ) (e : Error) → (h : Holds view whole) → All (AreOfIndex view.kind) h.are_known.tables → IsStoreFault view byte e → IsIndexReadOrMemory view e
no_store_fault view whole byte e =
    no_first_fault (λ tables. HasBucket tables byte) (λ can_fail tables why. IsBucketFault can_fail tables byte why) view whole e (no_store_fault_at view.kind byte)

no_location_fault : (kind : Kind) (digits : List ℕ) (can_fail : Bool) (tables : Tables) (e : LazyError) → AreOfIndex kind tables → IsLocationFault can_fail tables digits e
    → lazy.IsReadOrMemory can_fail e
no_location_fault kind digits can_fail tables (NoOffset at) (bytes, is, index) (bucket, there, none) =
    let low : at < length tables.ids = (name_is tables digits at (sym there)).0 in
    let counted = ap (λ (t : Tables). length t.ids) is ∙ length-ids_in kind bytes index.ids.tables in
    none-some (offset_in kind bytes at) (sym none ∙ ap (λ (t : Tables). t.offset at) is ∙ has_offset kind bytes at (index.offsets.in_table at (omega (arith, low, counted))))
no_location_fault kind digits can_fail tables e sound fault = no_store_fault_at kind (first_byte_of digits) can_fail tables e sound fault

pub no_locate_fault : (view : StoreView) (whole : List (List ℕ)) (digits : List ℕ) (e : Error) → (h : Holds view whole) → All (AreOfIndex view.kind) h.are_known.tables → IsLocateFault view digits e
    → IsIndexReadOrMemory view e
no_locate_fault view whole digits e =
    no_first_fault (λ tables. (offset : Option ℕ) × HasOffsetOf digits offset tables) (λ can_fail tables why. IsLocationFault can_fail tables digits why) view whole e
    (no_location_fault view.kind digits)
