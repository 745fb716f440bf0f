-- What contracts say of the files that a command reads.
use Rattle.std.specs.Prelude.{ℕ, ◌≡◌, ◌≢◌, ◌↔◌, ◌∷◌, [], Bool, IsTrue, List, Option, false, max}
use Rattle.file_commands.specs.Verdicts.{IsChecked}
use Rattle.packtool_arguments.specs.declared.arguments.FileCommand.{FileCommand}
use Rattle.packtool_arguments.specs.declared.arguments.FileCommand.TheVariants.{Check, Show}

-- a file was shown or checked, and this is the status: 2 if it could not be read; else 0 if a line was written for `show` or the file passed its check, and 1 if
-- not; the line of a checked file was written, unless the output failed
abbrev pub IsRead : FileCommand → List ℕ → Bool → ℕ → Option (List ℕ) → Option (List ℕ) → Type 0
IsRead Show path failed status old new = status ≢ 2 → failed ≡ false
IsRead Check path failed status old new = status ≢ 2 → failed ≡ false → (is_right : Bool) × ((status ≡ 0) ↔ IsTrue is_right) × IsChecked path is_right old new

-- things are done one after the other, each with a status, and the worst of these is this; T is what they change
abbrev pub AreDone : {X T : Type 0} → (X → ℕ → T → T → Type 0) → List X → ℕ → T → T → Type 0
AreDone IsDone [] status old new = (status ≡ 0) × (new ≡ old)
AreDone {X} {T} IsDone (x ∷ xs) status old new =
    (own : ℕ) × (worst : ℕ) × (middle : T) × IsDone x own old middle × AreDone IsDone xs worst middle new × (status ≡ max own worst)
