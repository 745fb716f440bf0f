-- What contracts say of why a file is not shown or checked.
use Rattle.std.specs.Prelude.{◌≡◌, List, string_bytes, ℕ}
use Rattle.file_commands.specs.declared.failure.FileFailure.{FileFailure}
use Rattle.file_commands.specs.declared.failure.FileFailure.TheVariants.{Memory, Output, Unread}
use Rattle.file_commands.specs.declared.failure.FileWhy.{FileWhy}

-- a file of this path is not shown or checked, for this reason; or memory ran out
abbrev pub IsAt : FileWhy → List ℕ → FileFailure → Type 0
IsAt why path (Unread text own) = (string_bytes text ≡ path) × (own ≡ why)
IsAt why path (Output error) = ⊥
IsAt why path (Memory error) = Unit {0}
