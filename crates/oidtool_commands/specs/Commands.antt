-- What each command does with its input, and how it fails: by the bytes that remained of the input before and after, and those that were written
-- before and after.
use Rattle.std.specs.Prelude.{ℕ, ◌≡◌, ◌⊎◌, Bool, List, Option, false, length, true}
use Rattle.std.specs.Io.KnownBytes.{Appends}
use Rattle.id_lookup.specs.Words.{Hex, Kind, Reverse, sealed}
use Rattle.streams.specs.Streams.{AppendsBeginning, HasReadAll, HasReadTooMuch, HashingFails, SealingFails, digest_line, max_len}
use Rattle.streams.specs.declared.PipeError.{PipeError}
use Rattle.streams.specs.declared.PipeError.TheVariants as pipe
use Rattle.list_search.specs.Searches.{Fails, Succeeds, From}
use Rattle.oidtool_commands.specs.declared.command.Command.{Command}
use Rattle.oidtool_commands.specs.declared.command.Command.TheVariants.{Find, FindChange, FindIn, Hash, HashFile, Seal}
use Rattle.oidtool_commands.specs.declared.error.CommandError.{CommandError}
use Rattle.oidtool_commands.specs.declared.error.CommandError.TheVariants as command
use Rattle.list_search.specs.declared.search.Search.{Search}
use Rattle.list_search.specs.declared.search.Search.TheVariants.{In, Sorted}
use Rattle.list_search.specs.declared.error.SearchError.{SearchError}
use Rattle.list_search.specs.declared.error.SearchError.TheVariants as search

-- the error of a pipe, as one of a command
abbrev pub error_of_pipe : PipeError → CommandError
error_of_pipe pipe.Input = command.Input
error_of_pipe pipe.Output = command.Output
error_of_pipe pipe.TooMuch = command.TooMuch

-- the error of a search, as one of a command
abbrev pub error_of_search : SearchError → CommandError
error_of_search search.Memory = command.Memory
error_of_search search.Output = command.Output
error_of_search search.Input = command.Input
error_of_search search.TooMuch = command.TooMuch
error_of_search error = command.Find error

-- the rest of the input was read to its end, or more than 2^61 - 1 bytes of it
abbrev pub IsDrained : Option (List ℕ) → Option (List ℕ) → Type 0
IsDrained input input' = (bytes : List ℕ) × (HasReadAll input input' bytes ⊎ HasReadTooMuch input input' bytes)

-- what a search that stopped with this error has read in the end: all of the input if its prefix is rejected, all after the chunk in which a bad line
-- ends, and nothing more after another error
abbrev pub ReadsOn : SearchError → Option (List ℕ) → Option (List ℕ) → Option (List ℕ) → Type 0
ReadsOn (search.Prefix error) input stop input' = IsDrained input input'
ReadsOn (search.BadLine n error) input stop input' = IsDrained stop input'
ReadsOn error input stop input' = input' ≡ stop

-- a search that reads its input to the end fails: at a read, or with its own error where it stopped
abbrev pub SearchToEndFails : Search → List ℕ → Option (List ℕ) → Option (List ℕ) → Option (List ℕ) → Option (List ℕ) → CommandError → Type 0
SearchToEndFails search prefix input input' old new e =
    (e ≡ command.Input)
    ⊎ ((error : SearchError) × (stop : Option (List ℕ)) × (e ≡ error_of_search error)
    × Fails search prefix (From max_len input stop) error old new × ReadsOn error input stop input')

-- all of the input was read, and what is made of it was written
abbrev pub Writes : (List ℕ → List ℕ) → Option (List ℕ) → Option (List ℕ) → Option (List ℕ) → Option (List ℕ) → Type 0
Writes make input input' old new = (message : List ℕ) × HasReadAll input input' message × Appends old new (make message)

-- the line of the digest of so many bytes was written
abbrev pub WritesOfFile : Kind → ℕ → Option (List ℕ) → Option (List ℕ) → Type 0
WritesOfFile kind len old new = (message : List ℕ) × (length message ≡ len) × Appends old new (digest_line kind message)

-- hashing a file fails: the file gives no digest, or a write fails
abbrev pub HashFileFails : Kind → ℕ → Option (List ℕ) → Option (List ℕ) → CommandError → Type 0
HashFileFails kind len old new e =
    (e ≡ command.Input)
    ⊎ ((e ≡ command.Output) × (message : List ℕ) × (length message ≡ len) × AppendsBeginning old new (digest_line kind message))

-- what a command has done that returns a number
abbrev pub Does : Command → Option (List ℕ) → Option (List ℕ) → Option (List ℕ) → Option (List ℕ) → ℕ → Type 0
Does (Find prefix) input input' old new count = Succeeds (Sorted Hex) prefix.now (From max_len input input') old new count
Does (FindChange letters) input input' old new count = Succeeds (Sorted Reverse) letters.now (From max_len input input') old new count
Does (FindIn kind prefix) input input' old new count = Succeeds (In kind) prefix.now (From max_len input input') old new count
Does (Hash kind) input input' old new count = Writes (digest_line kind) input input' old new × (count ≡ 1)
Does (HashFile kind len path) input input' old new count = WritesOfFile kind len old new × (count ≡ 1)
Does (Seal kind) input input' old new count = Writes (sealed kind) input input' old new × (count ≡ 1)

-- how it fails before the flush
abbrev pub FailsUnflushed : Command → Option (List ℕ) → Option (List ℕ) → Option (List ℕ) → Option (List ℕ) → CommandError → Type 0
FailsUnflushed (Find prefix) input input' old new e =
    (error : SearchError) × (e ≡ error_of_search error) × Fails (Sorted Hex) prefix.now (From max_len input input') error old new
FailsUnflushed (FindChange letters) input input' old new e = SearchToEndFails (Sorted Reverse) letters.now input input' old new e
FailsUnflushed (FindIn kind prefix) input input' old new e = SearchToEndFails (In kind) prefix.now input input' old new e
FailsUnflushed (Hash kind) input input' old new e = (error : PipeError) × (e ≡ error_of_pipe error) × HashingFails error kind input input' old new
FailsUnflushed (HashFile kind len path) input input' old new e = HashFileFails kind len old new e
FailsUnflushed (Seal kind) input input' old new e = (error : PipeError) × (e ≡ error_of_pipe error) × SealingFails error kind input input' old new

-- how it fails: so, or, after all was written, at the flush
abbrev pub FailsTo : Command → Option (List ℕ) → Option (List ℕ) → Option (List ℕ) → Option (List ℕ) → CommandError → Type 0
FailsTo asked input input' old new e =
    FailsUnflushed asked input input' old new e ⊎ ((e ≡ command.Output) × (count : ℕ) × Does asked input input' old new count)

-- whether a command reads the input, and not a file
abbrev pub reads_input : Command → Bool
reads_input (HashFile kind len path) = false
reads_input asked = true

-- whether a command writes what it reads while it reads
abbrev pub copies : Command → Bool
copies (Seal kind) = true
copies asked = false
