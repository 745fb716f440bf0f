-- The calls of a progress and of an interruption for one chunk more.
use Rattle.id_digits.proofs.Std.{◌≡◌, ℕ, ◌+◌, ◌-◌, ◌*◌, ◌<◌, Bool, false, min, List, [], ◌∷◌, ◌++◌, length, refl, FoldsTo-push, replicate-append-replicate, map-append}
use Rattle.gix_hash.specs.Hashing.{Reaches, ProgressCall, IncBy, heard, all_false}
use Rattle.gix_hash.proofs.Chunks.{take-chunks}

-- no call was made
pub Reaches-none : {V C : Type 0} (step : V → C → V → Type 0) (v : V) → Reaches step v [] v
unfolding Reaches
Reaches-none step v = refl

-- one call more
pub Reaches-more : {V C : Type 0} (step : V → C → V → Type 0) (v u w : V) (calls : List C) (call : C)
    → Reaches step v calls u → step u call w → Reaches step v (calls ++ call ∷ []) w
unfolding Reaches
Reaches-more step v u w calls call reached last = FoldsTo-push step v calls u call w reached last

-- a progress is called for the chunk after the first j
pub heard-more : {P : Type 0} (hears : P → ProgressCall → P → Type 0) (p q r : P) (n j count : ℕ)
    → 65535 * j < n → count ≡ min (n - 65535 * j) 65535
    → Reaches hears p (heard n j) q → hears q (IncBy count) r → Reaches hears p (heard n (j + 1)) r
heard-more hears p q r n j count left size reported last =
    rw (take-chunks n j left, map-append, ← size) (Reaches-more hears p q r (heard n j) (IncBy count) reported last)

-- one call more returns false
pub all_false-more : {I : Type 0} (answers : I → Bool → I → Type 0) (p q r : I) (answer : Bool) (j : ℕ)
    → answer ≡ false → Reaches answers p (all_false j) q → answers q answer r → Reaches answers p (all_false (j + 1)) r
all_false-more answers p q r answer j is_false asked last =
    rw (← replicate-append-replicate j 1 false) (Reaches-more answers p q r (all_false j) false asked (rw is_false at last))

-- if each call returns false, all calls do
pub always_false : {I : Type 0} (answers : I → Bool → I → Type 0)
    → ((p q : I) (answer : Bool) → answers p answer q → answer ≡ false)
    → (p q : I) (given : List Bool) → Reaches answers p given q → given ≡ all_false (length given)
unfolding Reaches
always_false answers each p q [] reached = refl
always_false answers each p q (answer ∷ given) reached =
    rw (each p reached.0 answer reached.1, ← always_false answers each reached.0 q given reached.2)
