-- What is related to the items of a list, place by place.
use Rattle.gix_hash.proofs.Std.{◌≡◌, ℕ, zero, suc, ◌+◌, ◌<◌, List, [], ◌∷◌, ◌++◌, get_or, length, take, subst, sym, arith, AllZip, take_more}
use Rattle.std.proofs.lemmas.Slice.Zip.{all_zipped_more}

-- if two lists are related place by place, then their items at each place are
pub zipped_at : {A B : Type 0} (R : A → B → Type 0) (xs : List A) (ys : List B) → AllZip R xs ys → (k : ℕ) (d : A) (e : B) → k < length xs → R (get_or xs k d) (get_or ys k e)
zipped_at R [] ys all k d e low = absurd (omega (arith, low))
zipped_at R (x ∷ xs) [] all k d e low = absurd all
zipped_at R (x ∷ xs) (y ∷ ys) all zero d e low = all.0
zipped_at R (x ∷ xs) (y ∷ ys) all (suc k) d e low = zipped_at R xs ys all.1 k d e (omega (arith, low))

pub zipped_weaker : {A B : Type 0} (R Q : A → B → Type 0) → ((x : A) (y : B) → R x y → Q x y) → (xs : List A) (ys : List B) → AllZip R xs ys → AllZip Q xs ys
zipped_weaker R Q each [] [] all = tt
zipped_weaker R Q each [] (y ∷ ys) all = absurd all
zipped_weaker R Q each (x ∷ xs) [] all = absurd all
zipped_weaker R Q each (x ∷ xs) (y ∷ ys) all = (each x y all.0, zipped_weaker R Q each xs ys all.1)

-- if the items of two lists are related at each place, then so are the lists
pub zipped_from : {A B : Type 0} (R : A → B → Type 0) (xs : List A) (ys : List B) → length ys ≡ length xs
    → ((k : ℕ) (d : A) (e : B) → k < length xs → R (get_or xs k d) (get_or ys k e)) → AllZip R xs ys
zipped_from R [] [] long each = tt
zipped_from R [] (y ∷ ys) long each = absurd (omega (arith, long))
zipped_from R (x ∷ xs) [] long each = absurd (omega (arith, long))
zipped_from R (x ∷ xs) (y ∷ ys) long each = (each 0 x y (omega arith), zipped_from R xs ys (omega (arith, long)) (λ k d e low. each (suc k) d e (omega (arith, low))))

-- one more item is related, as a loop over the list finds it
pub zipped_more : {A B : Type 0} (R : A → B → Type 0) (xs : List A) (at : ℕ) (d : A) (old new : List B) (y : B) → at < length xs → AllZip R (take at xs) old
    → R (get_or xs at d) y → new ≡ old ++ y ∷ [] → AllZip R (take (at + 1) xs) new
zipped_more {A} {B} R xs at d old new y low before one is =
    subst (λ (some : List A). AllZip R some new) (sym (take_more xs at d low))
    (subst (AllZip R (take at xs ++ get_or xs at d ∷ [])) (sym is) (all_zipped_more R (take at xs) old (get_or xs at d) y before one))
