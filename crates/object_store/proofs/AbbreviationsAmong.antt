-- An abbreviation that is decided among the ids that were gathered is the one in the whole store.
use Rattle.gix_hash.proofs.Std.{◌≡◌, ℕ, ◌+◌, ◌-◌, inl, inr, ◌<◌, ◌≤◌, true, nat_eq, Some, List, [], ◌∷◌, ◌++◌, length, get_or, map, take, drop, refl, sym, ap, ◌∙◌, subst, arith, append_assoc, take-append-drop, slice_get, All, Contains, starts_with, take-append-add, cases_order, false≢true, get_or_from_slice_get, get_or_default, get_or-map, length-map, length-take-le, map-append, take_more, Contains-get_or}
use Rattle.id_lookup.specs.Words.{IsIndex, IsIndexOf, IsShortestAbbreviationFrom, Kind, ObjectId, id_digits, matches}
use Rattle.id_lookup.proofs.Filters.{contains_had, contains_kept, kept_passes}
use Rattle.id_lookup.proofs.SameMembers.{one_position}
use Rattle.id_lookup.proofs.Spelled.{starts_with-BeginsWith}
use Rattle.object_store.specs.Stores.{IsAbbreviationIn}
use Rattle.object_store.specs.declared.abbreviations.AbbreviatedId.{AbbreviatedId}
use Rattle.object_store.proofs.Held.{each-push}

-- an id begins with its first digits
pub begins_itself : (id : List ℕ) (n : ℕ) → starts_with nat_eq id (take n id) ≡ true
begins_itself id n = (starts_with-BeginsWith id (take n id)).1 (drop n id, sym (take-append-drop n id))

-- what begins with the first digits of an id begins with fewer of them
begins_fewer : (other id front : List ℕ) (n : ℕ) → length front ≤ n → starts_with nat_eq id front ≡ true → starts_with nat_eq other (take n id) ≡ true
    → starts_with nat_eq other front ≡ true
begins_fewer other id front n few begins more =
    let is = (starts_with-BeginsWith id front).0 begins in
    let there = (starts_with-BeginsWith other (take n id)).0 more in
    let size : n ≡ length front + (n - length front) = omega (arith, few) in
    let split : take n id ≡ front ++ take (n - length front) is.0 =
    (λ i. take (size i) (is.1 i)) ∙ take-append-add front is.0 (n - length front) in
    (starts_with-BeginsWith other front).1
    (take (n - length front) is.0 ++ there.0, there.1 ∙ ap (λ (xs : List ℕ). xs ++ there.0) split ∙ append_assoc front (take (n - length front) is.0) there.0)

-- the shortest prefix of the id at a position of an index is its abbreviation in the index
pub abbreviation_there : (kind : Kind) (least : ℕ) (ids : List (List ℕ)) → IsIndex kind ids → (at : ℕ) (id name : List ℕ) → at < length ids → get_or ids at [] ≡ id
    → IsShortestAbbreviationFrom least ids at name → IsAbbreviationIn least ids id name
abbreviation_there kind least ids index at id name low is short = record {
  has = (at, low, get_or_default ids at id [] low ∙ is);
  first = short.first ∙ ap (take (length name)) is;
  long = short.long;
  alone = λ other there begins.
      let same : get_or ids there.0 [] ≡ other = sym (get_or_default ids there.0 other [] there.1) ∙ there.2 in
      elim (cases_order there.0 at) [
        | inl at_it ↦ sym same ∙ ap (λ n. get_or ids n []) at_it ∙ is
        | inr apart ↦ absurd (false≢true (sym (short.alone there.0 there.1 (λ e. elim apart [ inl less ↦ omega (arith, e, less) | inr above ↦ omega (arith, e, above) ]))
            ∙ subst (λ (x : List ℕ). starts_with nat_eq x name ≡ true) (sym same) begins))
      ];
  least = λ n from to.
      let r = short.least n from to in
      (get_or ids r.0 [], Contains-get_or ids r.0 [] r.1, λ same. r.2 (one_position kind ids index r.0 at r.1 low (same ∙ sym is)), r.3);
}

-- the abbreviation of an id among those that begin with some first digits of it is its abbreviation among all
pub abbreviation_in_read : (kind : Kind) (least : ℕ) (read ids : List (List ℕ)) (front : List ℕ) → IsIndexOf kind (matches front read) ids → length front ≤ least
    → (id name : List ℕ) → IsAbbreviationIn least ids id name → IsAbbreviationIn least read id name
abbreviation_in_read kind least read ids front index few id name is = record {
  has = had id is.has;
  first = is.first;
  long = is.long;
  alone = λ other there begins.
      let passes : starts_with nat_eq id front ≡ true = kept_passes (λ x. starts_with nat_eq x front) read id ((index.members id).0 is.has) in
      let more : starts_with nat_eq other (take (length name) id) ≡ true = subst (λ (n : List ℕ). starts_with nat_eq other n ≡ true) is.first begins in
      let passes_too = begins_fewer other id front (length name) (omega (arith, few, is.long)) passes more in
      is.alone other ((index.members other).1 (contains_kept (λ x. starts_with nat_eq x front) read other there passes_too)) begins;
  least = λ n from to. let other = is.least n from to in (other.0, had other.0 other.1, other.2, other.3);
}
  where
    -- a member of the index is one of all
    had : (other : List ℕ) → Contains ids other → Contains read other
    had other has = contains_had (λ x. starts_with nat_eq x front) read other ((index.members other).0 has)

-- so each id has its abbreviation among all ids that were read
pub abbreviations_read : (kind : Kind) (least : ℕ) (read : List (List ℕ)) (front : List ℕ) (ids : List ObjectId) (abbreviated : List AbbreviatedId) → length front ≤ least
    → IsIndexOf kind (matches front read) (map id_digits ids) → map (λ (n : AbbreviatedId). n.id) abbreviated ≡ ids
    → ((k : ℕ) (d : AbbreviatedId) → k < length abbreviated → IsShortestAbbreviationFrom least (map id_digits ids) k (get_or abbreviated k d).abbreviation.digits)
    → All (λ (n : AbbreviatedId). IsAbbreviationIn least read (id_digits n.id) n.abbreviation.digits) abbreviated
abbreviations_read kind least read front ids abbreviated few index all short k d low =
    let n = get_or abbreviated k d in
    let many : length ids ≡ length abbreviated = ap length (sym all) ∙ length-map abbreviated (λ (n : AbbreviatedId). n.id) in
    let within : k < length (map id_digits ids) = omega (arith, many, low, length-map ids id_digits) in
    let at : get_or ids k n.id ≡ n.id = ap (λ (xs : List ObjectId). get_or xs k n.id) (sym all) ∙ get_or-map (λ (n : AbbreviatedId). n.id) abbreviated k d n.id low in
    let is : get_or (map id_digits ids) k [] ≡ id_digits n.id = get_or-map id_digits ids k n.id [] (omega (arith, many, low)) ∙ ap id_digits at in
    abbreviation_in_read kind least read (map id_digits ids) front index few (id_digits n.id) n.abbreviation.digits
    (abbreviation_there kind least (map id_digits ids) index.index k (id_digits n.id) n.abbreviation.digits within is (short k d low))

-- the ids with abbreviations have the digits of the ids
pub abbreviated_digits : (ids : List ObjectId) (abbreviated : List AbbreviatedId) → map (λ (n : AbbreviatedId). n.id) abbreviated ≡ ids → map (λ (n : AbbreviatedId). id_digits n.id) abbreviated ≡ map id_digits ids
abbreviated_digits ids abbreviated all = map_twice abbreviated ∙ ap (map id_digits) all
  where
    map_twice : (abbreviated : List AbbreviatedId) → map (λ (n : AbbreviatedId). id_digits n.id) abbreviated ≡ map id_digits (map (λ (n : AbbreviatedId). n.id) abbreviated)
    map_twice [] = refl
    map_twice (n ∷ abbreviated) = ap (λ (rest : List (List ℕ)). id_digits n.id ∷ rest) (map_twice abbreviated)

-- each id up to a position has its abbreviation
abbrev pub HaveAbbreviations : ℕ → List ObjectId → List AbbreviatedId → Type 0
HaveAbbreviations least ids abbreviated = (k : ℕ) (d : AbbreviatedId) → k < length abbreviated → IsShortestAbbreviationFrom least (map id_digits ids) k (get_or abbreviated k d).abbreviation.digits

-- one id more has its abbreviation
pub abbreviated_more : (least at : ℕ) (ids : List ObjectId) (abbreviated more : List AbbreviatedId) (n : AbbreviatedId) → more ≡ abbreviated ++ n ∷ [] → at < length ids → slice_get ids at ≡ Some n.id
    → IsShortestAbbreviationFrom least (map id_digits ids) at n.abbreviation.digits → map (λ (n : AbbreviatedId). n.id) abbreviated ≡ take at ids → HaveAbbreviations least ids abbreviated
    → (map (λ (n : AbbreviatedId). n.id) more ≡ take (at + 1) ids) × HaveAbbreviations least ids more
abbreviated_more least at ids abbreviated more n is within here short before each = (
  ap (map (λ (n : AbbreviatedId). n.id)) is ∙ map-append (λ (n : AbbreviatedId). n.id) abbreviated (n ∷ [])
      ∙ ap (λ (front : List ObjectId). front ++ n.id ∷ []) before
      ∙ ap (λ (x : ObjectId). take at ids ++ x ∷ []) (sym (get_or_from_slice_get ids at n.id n.id here)) ∙ sym (take_more ids at n.id within),
  subst (HaveAbbreviations least ids) (sym is)
      (each-push (λ k (x : AbbreviatedId). IsShortestAbbreviationFrom least (map id_digits ids) k x.abbreviation.digits) abbreviated n each
      (subst (λ m. IsShortestAbbreviationFrom least (map id_digits ids) m n.abbreviation.digits) (sym many) short)),
)
  where
    many : length abbreviated ≡ at
    many = sym (length-map abbreviated (λ (n : AbbreviatedId). n.id)) ∙ ap length before ∙ length-take-le at ids (omega arith)
