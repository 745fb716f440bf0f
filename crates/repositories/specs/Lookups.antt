-- What a call on a path says of what is there.
use Rattle.std.specs.Prelude.{ℕ, Bool, false, true, if◌then◌else◌, List, None, Ok, Err, Option, Result, Some, length, nat_le, option_map}
use Rattle.std.specs.Result.{result_ok}
use Rattle.std.specs.Str.{is_utf8}
use Rattle.std.specs.declared.io.ErrorKind.{ErrorKind}
use Rattle.std.specs.declared.io.ErrorKind.TheVariants.{InvalidFilename, InvalidInput, NotADirectory, NotFound}
use Rattle.repositories.specs.Answers.{◌>>=◌, Answers}
use Rattle.repositories.specs.declared.directories.Found.{Found}
use Rattle.repositories.specs.declared.files.FileNumber.{FileNumber}

-- whether a call failed because there is no such directory or file
abbrev pub is_missing : ErrorKind → Bool
is_missing NotFound = true
is_missing NotADirectory = true
is_missing _ = false

-- whether the path of a link cannot be read because there is no link
abbrev pub is_no_link : ErrorKind → Bool
is_no_link InvalidInput = true
is_no_link InvalidFilename = true
is_no_link kind = is_missing kind

-- what a call answered, or none if there is nothing
abbrev pub if_there : {T : Type 0} → Result T ErrorKind → Option (Option T)
if_there (Ok found) = Some (Some found)
if_there (Err kind) = if is_missing kind then Some None else None

-- the bytes of a file that may have so many, or none if there is no file. Of a longer one nothing can be said
abbrev pub short_file : ℕ → List ℕ → Answers → Option (Option (List ℕ))
short_file most path at = if_there (at.bytes path) >>= λ file. elim file [ None ↦ Some None | Some bytes ↦ if nat_le (length bytes) most then Some (Some bytes) else None ]

-- the text that the bytes of a file are, if there is one. Of bytes that are not UTF-8 nothing can be said
abbrev pub as_text : Option (List ℕ) → Option (Option (List ℕ))
as_text None = Some None
as_text (Some bytes) = if is_utf8 bytes then Some (Some bytes) else None

-- what a path leads to, or none if there is nothing, or if the path is too long or has a NUL
abbrev pub if_found : Result Found ErrorKind → Option (Option Found)
if_found (Err InvalidFilename) = Some None
if_found answer = if_there answer

-- whether a path leads to something of this sort
abbrev pub leads_to : (Found → Bool) → List ℕ → Answers → Option Bool
leads_to is_such path at = if_found (at.look path) >>= λ found. elim found [ None ↦ Some false | Some found ↦ Some (is_such found) ]

-- whether a path leads to a directory
abbrev pub is_directory : List ℕ → Answers → Option Bool
is_directory = leads_to (λ found. found.is_directory)

-- whether a path leads to a file
abbrev pub is_file : List ℕ → Answers → Option Bool
is_file = leads_to (λ found. found.is_file)

-- the number of what a path leads to, with that of its file system
abbrev pub file_number_at : List ℕ → Answers → Option FileNumber
file_number_at path at = option_map (λ found. record { dev = found.state.dev; ino = found.state.ino }) (result_ok (at.look path))

-- the directory that was found at a path, by the absolute path that was answered; or, if that is not UTF-8, by the path itself, with its number
abbrev pub if_real : List ℕ → Found → Result (List ℕ) ErrorKind → Result (List ℕ × Option FileNumber) ErrorKind
if_real path found (Ok real) = Ok (real, None)
if_real path found (Err InvalidFilename) = Ok (path, Some (record { dev = found.state.dev; ino = found.state.ino }))
if_real path found (Err kind) = Err kind

-- the directory that a path leads to, by its absolute path without links
abbrev pub real_directory : List ℕ → Answers → Result (List ℕ × Option FileNumber) ErrorKind
real_directory path at = elim (at.look path) [
  | Err kind ↦ Err kind
  | Ok found ↦ if found.is_directory then if_real path found (at.real path) else Err NotADirectory
]
