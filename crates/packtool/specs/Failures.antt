-- What contracts say of why a command stops.
use Rattle.std.specs.Prelude.{ℕ, ◌≡◌, Bool, Err, Ok, Result, false, true}
use Rattle.std.specs.IoError.{error_kind}
use Rattle.std.specs.declared.io.ErrorKind.TheVariants.{BrokenPipe}
use Rattle.file_commands.specs.declared.failure.FileFailure.{FileFailure}
use Rattle.file_commands.specs.declared.failure.FileFailure.TheVariants as of_files
use Rattle.store_questions.specs.declared.failure.Failure.{Failure}
use Rattle.store_questions.specs.declared.failure.Failure.TheVariants.{Memory, Output}

-- nobody reads the output any more
abbrev pub IsClosedPipe : Failure → Type 0
IsClosedPipe (Output error) = error_kind error ≡ BrokenPipe
IsClosedPipe _ = ⊥

-- the status of a file that was shown or checked: 0 if the result is true, 1 if it is false, 2 if the file cannot be read; any other failure ends the command
abbrev pub status_of_file : Result Bool FileFailure → Result ℕ Failure
status_of_file (Ok true) = Ok 0
status_of_file (Ok false) = Ok 1
status_of_file (Err (of_files.Unread path why)) = Ok 2
status_of_file (Err (of_files.Output error)) = Err (Output error)
status_of_file (Err (of_files.Memory error)) = Err Memory
