-- What directories and files answer while nothing changes, and what is found by that.
use Rattle.std.specs.Prelude.{◌≡◌, ◌≢◌, ℕ, Bool, true, false, List, Option, Some, None, Result, Ok, Err, take}
use Rattle.std.specs.IoError.{error_kind}
use Rattle.std.specs.declared.io.Error.{Error as IoError}
use Rattle.std.specs.declared.io.ErrorKind.{ErrorKind}
use Rattle.std.specs.declared.io.ErrorKind.TheVariants.{OutOfMemory}
use Rattle.repositories.specs.declared.directories.Found.{Found}
use Rattle.repositories.specs.declared.error.Error.{Error}
use Rattle.repositories.specs.declared.error.Error.TheVariants.{Cause, Memory}

-- what each call answers for each path, or the kind of its error; `entry` is what is at a path, also if it is a link. Nothing is listed at a path where a look fails
pub record Answers : Type 0 where
  pub look : List ℕ → Result Found ErrorKind
  pub entry : List ℕ → Result Found ErrorKind
  pub names : List ℕ → Result (List ℕ) ErrorKind
  pub bytes : List ℕ → Result (List ℕ) ErrorKind
  pub link : List ℕ → Result (List ℕ) ErrorKind
  pub real : List ℕ → Result (List ℕ) ErrorKind
  pub missing : (path listed : List ℕ) (kind : ErrorKind) → look path ≡ Err kind → names path ≢ Ok listed

-- the first bytes of a file, so many at most
abbrev pub front : ℕ → List ℕ → Answers → Result (List ℕ) ErrorKind
front most path at = elim (at.bytes path) [ Ok bytes ↦ Ok (take most bytes) | Err kind ↦ Err kind ]

-- a statement holds of the answers, if they are known
abbrev pub IfKnown : (Answers → Type 0) → Option Answers → Type 0
IfKnown P known = (at : Answers) → known ≡ Some at → P at

-- what a call returned is this answer, unless memory ran out
abbrev pub IsCallAnswer : {X Y : Type 0} → (X → Y) → Result X IoError → Result Y ErrorKind → Type 0
IsCallAnswer view (Ok x) answer = answer ≡ Ok (view x)
IsCallAnswer view (Err error) answer = error_kind error ≢ OutOfMemory → answer ≡ Err (error_kind error)

-- what a call returned is this answer, if the answers are known, unless memory ran out
abbrev pub Answered : {X Y : Type 0} → (X → Y) → Result X IoError → (Answers → Result Y ErrorKind) → Option Answers → Type 0
Answered view result answer = IfKnown (λ at. IsCallAnswer view result (answer at))

-- whether an error says that memory ran out
abbrev pub is_memory : Error → Bool
is_memory (Memory error) = true
is_memory (Cause cause) = false

-- what a function returned is what is found. It is an error only where nothing can be said, since a call failed or a file says nothing that can be used, or where memory ran out
abbrev pub IsFound : {X Y : Type 0} → (X → Y) → Result X Error → Option Y → Type 0
IsFound view (Ok x) found = found ≡ Some (view x)
IsFound view (Err error) found = is_memory error ≡ false → found ≡ None

-- what a function returned is what is found by the answers, if they are known. It is an error only where nothing can be said, since a call failed or a file says nothing that can be used, or where memory ran out
abbrev pub Finds : {X Y : Type 0} → (X → Y) → Result X Error → (Answers → Option Y) → Option Answers → Type 0
Finds view result found = IfKnown (λ at. IsFound view result (found at))

-- what a function returned fits the answers, if they are known. It is an error only where nothing fits them, or where memory ran out
abbrev pub FindsOne : {X : Type 0} → (X → Answers → Type 0) → Result X Error → Option Answers → Type 0
FindsOne Fits (Ok x) known = IfKnown (Fits x) known
FindsOne {X = X} Fits (Err error) known = is_memory error ≡ false → IfKnown (λ at. (x : X) → ¬ Fits x at) known

infixl 10 ◌>>=◌
-- what a function says of what is found, if that can be said
abbrev pub ◌>>=◌ : {A B : Type 0} → Option A → (A → Option B) → Option B
None >>= f = None
(Some found) >>= f = f found
