-- The values of letters, computed lane by lane.
use Rattle.id_digits.proofs.Std.{◌≡◌, ℕ, ◌+◌, ◌*◌, ◌%◌, ◌^◌, ◌≤◌, Bool, true, false, not, ◌&&◌, cond, eqb, ltb, List, [], ◌∷◌, map, length, refl, ap, ap₂, ◌∙◌, arith, w8, Fits, eqb-true, nat_eq, agree_below, agree_below_at, nat_tests, length-map, map-map, mask_l-mod, tops_compared, list_all, sel_l, mask_l, top, zip2, Each1}
use Rattle.id_digits.specs.Letters.{is_digit}

-- lanes chosen between two maps by a map of tests
sel_l-map : (m : ℕ → Bool) (g h : ℕ → ℕ) (v : List ℕ) → sel_l (map m v) (map g v) (map h v) ≡ map (λ x. cond (m x) (g x) (h x)) v
sel_l-map m g h [] = refl
sel_l-map m g h (x ∷ v) = ap (λ r. cond (m x) (g x) (h x) ∷ r) (sel_l-map m g h v)

-- and by lanes that hold the tests
pub selected : (m g h : ℕ → ℕ) (v : List ℕ) {a x y : List ℕ} → a ≡ map m v → x ≡ map g v → y ≡ map h v
    → sel_l (map (top 7) a) x y ≡ map (λ e. cond (top 7 (m e)) (g e) (h e)) v
selected m g h v {a} {x} {y} p q r =
    ap (λ l. sel_l (map (top 7) l) x y) p ∙ ap (λ l. sel_l l x y) (map-map (top 7) m v)
    ∙ ap₂ (sel_l (map (λ e. top 7 (m e)) v)) q r ∙ sel_l-map (λ e. top 7 (m e)) g h v

-- functions that agree on all 256 bytes agree on lanes
pub same_lanes : (f g : ℕ → ℕ) (v : List ℕ) {z : List ℕ} → z ≡ map f v → Each1 (Fits w8) v
    → agree_below (λ b. eqb (f b) (g b)) (λ _. true) 256 ≡ true → z ≡ map g v
same_lanes f g v p fits all = p ∙ go v fits
  where
    go : (v : List ℕ) → Each1 (Fits w8) v → map f v ≡ map g v
    go [] h = refl
    go (x ∷ v) h = ap₂ (λ a r. a ∷ r) (eqb-true _ _ (agree_below_at (λ b. eqb (f b) (g b)) (λ _. true) 256 x all h.0.fits)) (go v h.1)

-- a mask of bits is zero if and only if each bit is
none_set-cons : (b : Bool) (n : ℕ) → eqb (cond b 1 0 + 2 * n) 0 ≡ (not b && eqb n 0)
none_set-cons true n = grind (arith, nat_tests)
none_set-cons false n = grind (arith, nat_tests)

none_set : (p : ℕ → Bool) (v : List ℕ) → eqb (mask_l (map p v)) 0 ≡ list_all (λ x. not (p x)) v
none_set p [] = refl
none_set p (x ∷ v) = none_set-cons (p x) (mask_l (map p v)) ∙ ap (λ r. not (p x) && r) (none_set p v)

-- no lane passes a test if and only if each passes its opposite
pub all_clear : (f : ℕ → ℕ) (q : ℕ → Bool) (v : List ℕ) {z : List ℕ} → z ≡ map f v → length v ≤ 64 → Each1 (Fits w8) v
    → agree_below (λ x. not (top 7 (f x))) q 256 ≡ true → nat_eq (mask_l (map (top 7) z) % 2 ^ 64) 0 ≡ list_all q v
all_clear f q v p few fits all =
    ap (λ l. eqb (mask_l (map (top 7) l) % 2 ^ 64) 0) p ∙ ap (λ l. eqb (mask_l l % 2 ^ 64) 0) (map-map (top 7) f v)
    ∙ ap (λ m. eqb m 0) (mask_l-mod (map (λ x. top 7 (f x)) v) 64 (omega (arith, length-map v (λ x. top 7 (f x)))))
    ∙ none_set (λ x. top 7 (f x)) v ∙ go v fits
  where
    go : (v : List ℕ) → Each1 (Fits w8) v → list_all (λ x. not (top 7 (f x))) v ≡ list_all q v
    go [] h = refl
    go (x ∷ v) h = ap₂ (λ a r. a && r) (agree_below_at (λ x. not (top 7 (f x))) q 256 x all h.0.fits) (go v h.1)

-- the greater of two values is a digit if and only if both are
greater_digit : (x y : ℕ) → is_digit (cond (ltb x y) y x) ≡ (is_digit x && is_digit y)
greater_digit x y = by_test (ltb x y) refl
  where
    by_test : (b : Bool) → ltb x y ≡ b → is_digit (cond b y x) ≡ (is_digit x && is_digit y)
    by_test true less = grind (arith, nat_tests, less)
    by_test false less = grind (arith, nat_tests, less)

-- and so it is of lanes
pub greater_digits : (xs ys : List ℕ) → length xs ≡ length ys
    → list_all is_digit (sel_l (map (top 7) (zip2 (λ a b. cond (ltb a b) 255 0) xs ys)) ys xs) ≡ (list_all is_digit xs && list_all is_digit ys)
greater_digits xs ys same = ap (λ ms. list_all is_digit (sel_l ms ys xs)) (tops_compared w8 ltb xs ys) ∙ go xs ys same
  where
    in_turn : (a b r s : Bool) → ((a && b) && (r && s)) ≡ ((a && r) && (b && s))
    in_turn true true r s = refl
    in_turn true false true s = refl
    in_turn true false false s = refl
    in_turn false b r s = refl

    go : (xs ys : List ℕ) → length xs ≡ length ys → list_all is_digit (sel_l (zip2 ltb xs ys) ys xs) ≡ (list_all is_digit xs && list_all is_digit ys)
    go [] [] e = refl
    go [] (y ∷ ys) e = absurd (omega arith)
    go (x ∷ xs) [] e = absurd (omega arith)
    go (x ∷ xs) (y ∷ ys) e =
        ap₂ (λ a r. a && r) (greater_digit x y) (go xs ys (omega arith))
        ∙ in_turn (is_digit x) (is_digit y) (list_all is_digit xs) (list_all is_digit ys)
