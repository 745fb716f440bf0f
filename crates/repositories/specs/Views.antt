-- What the code's values are in the definitions.
use Rattle.std.specs.Prelude.{ℕ, List, Option, string_bytes}
use Rattle.repositories.specs.Discovery.{Repository as ARepository}
use Rattle.repositories.specs.declared.files.FileNumber.{FileNumber}
use Rattle.repositories.specs.declared.files.RealDirectory.{RealDirectory}
use Rattle.repositories.specs.declared.repository.Repository.{Repository}

-- a directory that is there
abbrev pub directory_of : RealDirectory → List ℕ × Option FileNumber
directory_of real = (string_bytes real.path, real.number)

-- a repository that was found
abbrev pub repository_of : Repository → ARepository
repository_of found = record { directory = string_bytes found.directory; top = string_bytes found.top }
