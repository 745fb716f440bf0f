-- Things that are done one after the other.
use Rattle.gix_hash.proofs.Std.{[], ◌++◌, ◌∷◌, ℕ, List, arith, max, refl}
use Rattle.packtool.specs.Files.{AreDone}

-- one thing more is done
pub done-more : {X T : Type 0} (IsDone : X → ℕ → T → T → Type 0) (xs : List X) (x : X) (worst own : ℕ) (old middle new : T) → AreDone IsDone xs worst old middle
    → IsDone x own middle new → AreDone IsDone (xs ++ x ∷ []) (max worst own) old new
done-more IsDone [] x worst own old middle new done is = (own, 0, new, rw (← done.1) is, (refl, refl), omega (arith, done.0))
done-more IsDone (y ∷ ys) x worst own old middle new done is =
    (done.0, max done.1 own, done.2, done.3, done-more IsDone ys x done.1 own done.2 middle new done.4 is, omega (arith, done.5))
