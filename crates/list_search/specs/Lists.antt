-- List texts, with a line for each id.
use Rattle.std.specs.Prelude.{[], ℕ, ◌++◌, ◌+◌, ◌∷◌, ◌≡◌, All, Err, IsOk, List, Ok, Result, false, flat_map, length}
use Rattle.std.specs.List.{AllZip}
use Rattle.id_lookup.specs.Words.{Kind, KindDigits, full_read, hex_letter, kind_digits}
use Rattle.gix_hash.specs.declared.decode.Error.{Error}
use Rattle.streams.specs.Streams.{is_line_feed, lines_of}
use Rattle.list_search.specs.declared.error.SearchError.{SearchError}
use Rattle.list_search.specs.declared.error.SearchError.TheVariants.{BadLine, Memory}

-- the digits of what line n reads as, before those of the lines after it; or the first error
abbrev pub prepend_line : ℕ → Result KindDigits Error → Result (List (List ℕ)) SearchError → Result (List (List ℕ)) SearchError
prepend_line n (Err error) more = Err (BadLine n error)
prepend_line n (Ok id) (Err error) = Err error
prepend_line n (Ok id) (Ok ids) = Ok (id.digits ∷ ids)

-- the digits of the ids of some lines, counted from n, or the first error
unfoldable pub ids_read : ℕ → List (List ℕ) → Result (List (List ℕ)) SearchError
ids_read n [] = Ok []
ids_read n (line ∷ lines) = prepend_line n (full_read hex_letter line) (ids_read (n + 1) lines)

-- the digits of the ids of a list text, or the first error, with its line, counted from 1
abbrev pub list_read : List ℕ → Result (List (List ℕ)) SearchError
list_read text = ids_read 1 (lines_of text)

-- the first of the lines reads as an id
abbrev pub IsFirstRead : List (List ℕ) → Type 0
IsFirstRead [] = ⊥
IsFirstRead (line ∷ lines) = IsOk (full_read hex_letter line)

-- the text is rejected as a list: for its first bad line, or, after a first line that reads, since memory ran out
abbrev pub IsListRefusal : List ℕ → SearchError → Type 0
IsListRefusal text (BadLine n error) = list_read text ≡ Err (BadLine n error)
IsListRefusal text Memory = IsFirstRead (lines_of text)
IsListRefusal text error = ⊥

-- the line reads as an id of these digits
abbrev pub IsLineOf : List ℕ → List ℕ → Type 0
IsLineOf line digits = (kind : Kind) × (full_read hex_letter line ≡ Ok (kind_digits kind digits))

-- each line of the text reads as the id at its position
abbrev pub IsListOf : List ℕ → List (List ℕ) → Type 0
IsListOf text ids = AllZip IsLineOf (lines_of text) ids

-- of some lines, counted from n, line m is the first that does not read as an id, for this error
pub record IsFirstBad (n : ℕ) (lines : List (List ℕ)) (m : ℕ) (error : Error) : Type 0 where
  pub before : List (List ℕ)
  pub line : List ℕ
  pub after : List (List ℕ)
  pub is : lines ≡ before ++ line ∷ after
  pub number : m ≡ n + length before
  pub read : All (λ l. IsOk (full_read hex_letter l)) before
  pub refused : full_read hex_letter line ≡ Err error

-- line m of the text, counted from 1, is the first that does not read as an id, for this error
abbrev pub IsFirstBadLine : List ℕ → ℕ → Error → Type 0
IsFirstBadLine text m error = IsFirstBad 1 (lines_of text) m error

-- no byte of a line is a line feed
abbrev pub IsLine : List ℕ → Type 0
IsLine line = All (λ b. is_line_feed b ≡ false) line

-- a line and its line feed
abbrev pub ended : List ℕ → List ℕ
ended line = line ++ 10 ∷ []

-- no bad line ended in the text: it is lines that read as ids, each with its line feed, and the beginning of a line
pub record NoBadLineEnded (text : List ℕ) : Type 0 where
  pub lines : List (List ℕ)
  pub last : List ℕ
  pub text_is : text ≡ flat_map ended lines ++ last
  pub read : All (λ line. IsOk (full_read hex_letter line)) lines
  pub not_ended : IsLine last
