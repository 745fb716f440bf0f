-- What lists contain that are made of other lists.
use Rattle.gix_hash.proofs.Std.{◌≡◌, ◌∙◌, ◌<◌, ◌++◌, zero, suc, Bool, true, false, if◌then◌else◌, List, [], ◌∷◌, All, All-contains, All-map, All-push, AllZip, Contains, Contains-append_cases, Contains-append_left, Contains-append_right, Contains-get_or, ap, arith, flat_map, get_or, get_or-map, inl, inr, length, length-map, map, map-append, refl, subst, sym}
use Rattle.std.proofs.lemmas.Slice.Zip.{AllZip-long}
use Rattle.object_store.proofs.Zipped.{zipped_at}

-- with one more, if there is room
pub pushed : {X : Type 0} (P : X → Type 0) (xs : List X) (x : X) (ok : Bool) → All P xs → P x → All P (if ok then xs ++ x ∷ [] else xs)
pushed P xs x true all one = All-push P xs x all one
pushed P xs x false all one = all

-- what is made of each
pub map_has : {X Y : Type 0} (f : X → Y) (xs : List X) (x : X) → Contains xs x → Contains (map f xs) (f x)
map_has f xs x has = (has.0, omega (arith, has.1, length-map xs f), get_or-map f xs has.0 x (f x) has.1 ∙ ap f has.2)

pub map_from : {X Y : Type 0} (f : X → Y) (xs : List X) (y : Y) → Contains (map f xs) y → (x : X) × Contains xs x × (f x ≡ y)
map_from {X} {Y} f xs y =
    let IsOfMember : Y → Type 0 = λ y. (x : X) × Contains xs x × (f x ≡ y) in
    All-contains IsOfMember (map f xs) y (All-map IsOfMember f xs (λ k d inside. (get_or xs k d, Contains-get_or xs k d inside, refl)))

-- several of each
pub flat_has : {X Y : Type 0} (f : X → List Y) (xs : List X) (x : X) (y : Y) → Contains xs x → Contains (f x) y → Contains (flat_map f xs) y
flat_has f [] x y has one = absurd (omega (arith, has.1))
flat_has f (z ∷ zs) x y (zero, low, is) one = Contains-append_left (f z) (flat_map f zs) y (subst (λ w. Contains (f w) y) (sym is) one)
flat_has f (z ∷ zs) x y (suc k, low, is) one = Contains-append_right (f z) (flat_map f zs) y (flat_has f zs x y (k, omega (arith, low), is) one)

pub flat_from : {X Y : Type 0} (f : X → List Y) (xs : List X) (y : Y) → Contains (flat_map f xs) y → (x : X) × Contains xs x × Contains (f x) y
flat_from f [] y has = absurd (omega (arith, has.1))
flat_from f (x ∷ xs) y has = elim (Contains-append_cases (f x) (flat_map f xs) y has) [
  | inl here ↦ (x, (0, omega arith, refl), here)
  | inr rest ↦ let from = flat_from f xs y rest in (from.0, (suc from.1.0, omega (arith, from.1.1), from.1.2), from.2)
]

-- one of each
module _ {X Y : Type 0} (R : X → Y → Type 0) (xs : List X) (ys : List Y) (each : AllZip R xs ys) (x : X) (y : Y) where
  pub zip_has : Contains xs x → (other : Y) × Contains ys other × R x other
  zip_has has =
      let low : has.0 < length ys = omega (arith, has.1, AllZip-long R xs ys each) in
      (get_or ys has.0 y, Contains-get_or ys has.0 y low, subst (λ w. R w (get_or ys has.0 y)) has.2 (zipped_at R xs ys each has.0 x y has.1))

  pub zip_from : Contains ys y → (other : X) × Contains xs other × R other y
  zip_from has =
      let low : has.0 < length xs = omega (arith, has.1, AllZip-long R xs ys each) in
      (get_or xs has.0 x, Contains-get_or xs has.0 x low, subst (R (get_or xs has.0 x)) has.2 (zipped_at R xs ys each has.0 x y low))

-- one more of each of two lists of which the same is made
pub one_more : {X Y Z : Type 0} (f : Y → X) (g : Z → X) (ys : List Y) (zs : List Z) (y : Y) (z : Z) → f y ≡ g z → map f ys ≡ map g zs → map f (ys ++ y ∷ []) ≡ map g (zs ++ z ∷ [])
one_more f g ys zs y z is before = map-append f ys (y ∷ []) ∙ (λ i. before i ++ is i ∷ []) ∙ sym (map-append g zs (z ∷ []))
