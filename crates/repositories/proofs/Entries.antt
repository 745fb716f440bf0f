-- A list of alternates that is read entry by entry.
use Rattle.gix_hash.proofs.Std.{◌≡◌, ◌≤◌, ◌-◌, true, false, arith, ℕ, suc, zero, ◌++◌, ◌∷◌, ◌==◌, List, [], length, refl, sym, ap, ◌∙◌, append_assoc, append-nil, nat_tests}
use Rattle.repositories.specs.Alternates.{first_path, first_paths, paths_of_entry}

-- all paths are these, and then those of what is left
pub record Names (separator : ℕ) (all paths : List (List ℕ)) (left : List ℕ) : Type 0 where
  pub most : ℕ
  pub within : length left ≤ most
  pub all_are : all ≡ paths ++ first_paths separator most left

pub names_entry : (separator : ℕ) (all paths : List (List ℕ)) (left path rest : List ℕ) → false ≡ (length left == 0) → (path, rest) ≡ first_path separator left → length rest ≤ length left - 1
    → Names separator all paths left → Names separator all (paths ++ paths_of_entry path) rest
names_entry separator all paths left path rest some is fewer names = go names.most names.within names.all_are
  where
    go : (most : ℕ) → length left ≤ most → all ≡ paths ++ first_paths separator most left → Names separator all (paths ++ paths_of_entry path) rest
    go zero within are = absurd (grind (arith, nat_tests))
    go (suc n) within are = record {
      most = n;
      within = grind (arith, nat_tests);
      all_are = are ∙ ap (λ first. paths ++ (paths_of_entry first.0 ++ first_paths separator n first.1)) (sym is) ∙ sym (append_assoc paths (paths_of_entry path) (first_paths separator n rest));
    }

pub names_all : (separator : ℕ) (all paths : List (List ℕ)) (left : List ℕ) → true ≡ (length left == 0) → Names separator all paths left → paths ≡ all
names_all separator all paths [] none names = sym (names.all_are ∙ ap (λ more. paths ++ more) (no_paths names.most) ∙ append-nil paths)
  where
    no_paths : (n : ℕ) → first_paths separator n [] ≡ []
    no_paths zero = refl
    no_paths (suc n) = no_paths n
names_all separator all paths (first ∷ rest) none names = absurd (grind (arith, nat_tests))
