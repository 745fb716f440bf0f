use Rattle.gix_hash.proofs.Std.{All, ◌≢◌, ◌++◌, ◌∷◌, [], ℕ, List, take, string_bytes}
use Rattle.packtool.proofs.first_not_text.Given as goal

abbrev pub invariant-loop-before : goal.invariant-loop-before
invariant-loop-before l = All (λ word. (text : List ℕ) → string_bytes word ≢ text ++ (0 ∷ [])) (take l.before l.words)
