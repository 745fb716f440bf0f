-- The texts of clones.
use Rattle.gix_hash.proofs.Std.{◌≡◌, ℕ, List, [], ◌∷◌, AllZip, ap₂, map, refl, string_bytes}
use Rattle.std.specs.Prelude.{String}
use Rattle.std.specs.Global.{Global}

-- clones of texts are the same texts
pub same_texts : (texts clones : List (String Global)) → AllZip (λ text clone. string_bytes clone ≡ string_bytes text) texts clones → map string_bytes clones ≡ map string_bytes texts
same_texts [] [] same = refl
same_texts [] (clone ∷ clones) same = absurd same
same_texts (text ∷ texts) [] same = absurd same
same_texts (text ∷ texts) (clone ∷ clones) same = ap₂ (λ (first : List ℕ) (rest : List (List ℕ)). first ∷ rest) same.0 (same_texts texts clones same.1)
