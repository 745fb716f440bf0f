-- What a tree in memory answers.
use Rattle.std.specs.Prelude.{ℕ, Bool, true, false, List, Option, Some, None, Result, Ok, Err, bytes_eq, find, length}
use Rattle.std.specs.Borrow.{Bor}
use Rattle.std.specs.Result.{is_ok}
use Rattle.std.specs.declared.io.ErrorKind.{ErrorKind}
use Rattle.std.specs.declared.io.ErrorKind.TheVariants.{InvalidInput, IsADirectory, NotFound, Unsupported}
use Rattle.std.proofs.Common.{ap}
use Rattle.std.proofs.lemmas.Bool.{false≢true}
use Rattle.repositories.specs.Answers.{Answers}
use Rattle.repositories.specs.declared.directories.Found.{Found}
use Rattle.directory_store_tests.specs.declared.mem_tree.Entry.{Entry}
use Rattle.directory_store_tests.specs.declared.mem_tree.Entry.TheVariants.{Directory, Root, File, Link}
use Rattle.directory_store_tests.specs.declared.mem_tree.MemTree.{MemTree}

-- what is at a path
abbrev pub entry_at : List (Bor (List ℕ) × Entry) → List ℕ → Result Entry ErrorKind
entry_at entries path = elim (find (λ entry. bytes_eq path entry.0.now) entries) [ Some entry ↦ Ok entry.1 | None ↦ Err NotFound ]

-- what a call answers, by what is there
abbrev pub answer : {T : Type 0} → (Entry → Result T ErrorKind) → Result Entry ErrorKind → Result T ErrorKind
answer of_entry (Ok entry) = of_entry entry
answer of_entry (Err kind) = Err kind

-- the number of what is at a path: its length, and 0 for the root
abbrev pub number_of : List ℕ → Entry → ℕ
number_of path Root = 0
number_of path _ = length path

-- whether this is a directory
abbrev pub is_directory : Entry → Bool
is_directory Directory = true
is_directory Root = true
is_directory _ = false

-- whether this is a file
abbrev pub is_file : Entry → Bool
is_file (File text) = true
is_file _ = false

-- what is found at a path
abbrev pub found_at : List ℕ → Entry → Found
found_at path entry = record {
  is_directory = is_directory entry;
  is_file = is_file entry;
  state = record { missing = 0; dev = 1; ino = number_of path entry; size = 0; modified = record { secs = 0; nanos = 0 }; changed = record { secs = 0; nanos = 0 } };
}

-- what a look finds: a link leads to nothing
abbrev pub look_at : List ℕ → Entry → Result Found ErrorKind
look_at path (Link text) = Err NotFound
look_at path entry = Ok (found_at path entry)

-- what is read of a file
abbrev pub text_of : Entry → Result (List ℕ) ErrorKind
text_of (File text) = Ok text.now
text_of (Link text) = Err NotFound
text_of _ = Err IsADirectory

-- the path that a link has
abbrev pub link_of : Entry → Result (List ℕ) ErrorKind
link_of (Link text) = Ok text.now
link_of _ = Err InvalidInput

-- what a tree answers of which no call is told to fail. It lists no names
abbrev pub answers_in : List (Bor (List ℕ) × Entry) → Answers
answers_in entries = record {
  look = λ path. answer (look_at path) (entry_at entries path);
  entry = λ path. answer (λ entry. Ok (found_at path entry)) (entry_at entries path);
  names = λ path. Err Unsupported;
  bytes = λ path. answer text_of (entry_at entries path);
  link = λ path. answer link_of (entry_at entries path);
  real = λ path. answer (λ entry. Ok path) (entry_at entries path);
  missing = λ path listed kind failed lists. false≢true (ap is_ok lists);
}

-- what a tree answers, if that is known
abbrev pub answers_of : MemTree → Option Answers
answers_of tree = elim tree.fails_at [ Some call ↦ None | None ↦ Some (answers_in tree.entries.now) ]
