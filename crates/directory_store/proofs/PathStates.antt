-- The states of paths, one by one.
use Rattle.gix_hash.proofs.Std.{◌≡◌, ◌∙◌, ◌+◌, ◌<◌, ◌++◌, ◌∷◌, [], ℕ, List, ap, get_or, length, map, string_bytes, sym, take}
use Rattle.std.specs.Global.{Global}
use Rattle.std.specs.Prelude.{String}
use Rattle.std.proofs.lemmas.List.{map_more}
use Rattle.std.proofs.lemmas.Slice.Zip.{all_zipped_more}
use Rattle.repositories.specs.Answers.{Answers}
use Rattle.repositories.specs.Walks.{IsStateOf, or_here}
use Rattle.repositories.specs.declared.state.FileState.{FileState}
use Rattle.directory_store.specs.Stores.{AreStatesOf}

-- one path more
pub one_state : (at : Answers) (paths : List (String Global)) (k : ℕ) (path : String Global) (text : List ℕ) (old : List FileState) (state : FileState) (new : List FileState) → k < length paths
    → path ≡ get_or paths k path → text ≡ string_bytes path → AreStatesOf (map string_bytes (take k paths)) old at → IsStateOf (or_here text) state at → new ≡ old ++ state ∷ []
    → AreStatesOf (map string_bytes (take (k + 1) paths)) new at
one_state at paths k path text old state new low is same before one more =
    let next = map_more string_bytes paths k path low ∙ ap (λ p. map string_bytes (take k paths) ++ p ∷ []) (sym (same ∙ ap string_bytes is)) in
    rw (next, more) (all_zipped_more (λ path state. IsStateOf (or_here path) state at) (map string_bytes (take k paths)) old text state before one)
