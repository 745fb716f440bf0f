-- What the tree answers.
use Rattle.std.specs.Prelude.{◌≡◌, ◌≢◌, ◌∷◌, ◌++◌, ◌||◌, [], ℕ, Bool, true, false, not, List, Result, Ok, Err, bytes_eq, codes, if◌then◌else◌, is_ok, replicate}
use Rattle.std.specs.declared.io.ErrorKind.{ErrorKind}
use Rattle.std.specs.declared.io.ErrorKind.TheVariants.{InvalidInput, NotFound}
use Rattle.std.proofs.Common.{ap, sym}
use Rattle.std.proofs.lemmas.Bool.{false≢true}
use Rattle.repositories.specs.Answers.{Answers}
use Rattle.repositories.specs.declared.directories.Found.{Found}

-- the digits of the loose object
abbrev pub loose_digits : List ℕ
loose_digits = 4 ∷ 11 ∷ replicate 38 0

-- the name of its file
abbrev pub loose_name : List ℕ
loose_name = codes "00000000000000000000000000000000000000"

-- the names in a directory, each ended by a NUL
abbrev pub names_at : List ℕ → Result (List ℕ) ErrorKind
names_at path =
    if bytes_eq path (codes "o") then Ok (codes "4b" ++ 0 ∷ codes "pack" ++ 0 ∷ []) else
    if bytes_eq path (codes "o/4b") then Ok (loose_name ++ 0 ∷ []) else
    if bytes_eq path (codes "o/pack") then Ok (codes "p.idx" ++ 0 ∷ codes "p.pack" ++ 0 ∷ []) else Err NotFound

-- whether a path leads to a file
abbrev pub is_file : List ℕ → Bool
is_file path = bytes_eq path (codes "o/pack/p.idx") || bytes_eq path (codes "o/pack/p.pack")

-- a file or a directory, as it is found
abbrev pub found_of : Bool → Found
found_of is_file = record {
  is_directory = not is_file;
  is_file = is_file;
  state = record { missing = 0; dev = 1; ino = 1; size = 0; modified = record { secs = 0; nanos = 0 }; changed = record { secs = 0; nanos = 0 } };
}

-- what a look finds at a path, by the names in it, and by whether it leads to a file
abbrev pub look_at : Result (List ℕ) ErrorKind → Bool → Result Found ErrorKind
look_at names true = Ok (found_of true)
look_at (Ok names) false = Ok (found_of false)
look_at (Err kind) false = Err kind

-- nothing is listed where a look fails
abbrev pub none_listed : (names : Result (List ℕ) ErrorKind) (file : Bool) (listed : List ℕ) (kind : ErrorKind) → look_at names file ≡ Err kind → names ≢ Ok listed
none_listed (Ok names) true listed kind fails lists = false≢true (sym (ap is_ok fails))
none_listed (Ok names) false listed kind fails lists = false≢true (sym (ap is_ok fails))
none_listed (Err missing) file listed kind fails lists = false≢true (ap is_ok lists)

-- what the tree answers, by the bytes of its pack index
abbrev pub answers_in : List ℕ → Answers
answers_in index = record {
  look = λ path. look_at (names_at path) (is_file path);
  entry = λ path. look_at (names_at path) (is_file path);
  names = names_at;
  bytes = λ path. if bytes_eq path (codes "o/pack/p.idx") then Ok index else Err NotFound;
  link = λ path. Err InvalidInput;
  real = Ok;
  missing = λ path. none_listed (names_at path) (is_file path);
}
