-- What a search finds in a list text, what its result says of the text, and where it stops.
use Rattle.std.specs.Prelude.{[], ℕ, ◌++◌, ◌+◌, ◌-◌, ◌<◌, ◌==◌, ◌∷◌, ◌≡◌, ◌≤◌, ◌⊎◌, Bool, Err, IsOk, List, None, Ok, Option, Result, Some, if◌then◌else◌, length, nat_lt, not, take, true}
use Rattle.std.specs.Cmp.Lexicographic.{slice_cmp}
use Rattle.std.specs.Io.KnownBytes.{Appends, Consumes, IsAtEnd}
use Rattle.std.specs.Option.{option_map, option_or}
use Rattle.std.specs.Ordering.{is_lt, nat_cmp}
use Rattle.id_lookup.specs.Words.{IsFirstIndexError, IsFirstUnsorted, IsIndex, IsSortedIds, Kind, KindDigits, hex_len_of, hex_letter, least_hex_len, letter_of, matches, prefix_read, prefix_read_in}
use Rattle.gix_hash.specs.declared.prefix.from_hex.Error.{Error as PrefixError}
use Rattle.streams.specs.Streams.{AppendsBeginning, lines_of, printed}
use Rattle.id_lookup.specs.declared.index.IndexError.{IndexError}
use Rattle.id_lookup.specs.declared.index.IndexError.TheVariants as index
use Rattle.list_search.specs.Lists.{IsFirstBadLine, IsFirstRead, IsListOf, NoBadLineEnded, list_read}
use Rattle.list_search.specs.declared.search.Search.{Search}
use Rattle.list_search.specs.declared.search.Search.TheVariants.{In, Sorted}
use Rattle.list_search.specs.declared.error.SearchError.{SearchError}
use Rattle.list_search.specs.declared.error.SearchError.TheVariants.{BadLine, Input, Memory, NotRising, Output, Prefix, PrefixTooLong, TooMuch, Unsorted, WrongKind}

-- what the prefix reads as
abbrev pub prefix_for : Search → List ℕ → Result KindDigits PrefixError
prefix_for (Sorted alphabet) text = prefix_read (letter_of alphabet) 4 text
prefix_for (In kind) text = prefix_read_in kind hex_letter text

-- the letters in which ids are written
abbrev pub letter_for : Search → ℕ → ℕ
letter_for (Sorted alphabet) = letter_of alphabet
letter_for (In kind) = hex_letter

-- the prefix has the kind, if the ids must have one
abbrev pub IsFor : Search → KindDigits → Type 0
IsFor search prefix = (kind : Kind) → search ≡ In kind → prefix.kind ≡ kind

-- whether an id is above the one before it, if there is one
abbrev pub is_above : Option (List ℕ) → List ℕ → Bool
is_above None id = true
is_above (Some last) id = is_lt (slice_cmp nat_cmp last id)

-- the error of an id after the previous one, by its line: it is below that one, or it is of another kind or else not above that one
abbrev pub order_error : Search → Option (List ℕ) → List ℕ → Option (ℕ → SearchError)
order_error (Sorted alphabet) None id = None
order_error (Sorted alphabet) (Some last) id = if is_lt (slice_cmp nat_cmp id last) then Some Unsorted else None
order_error (In kind) last id = if not (length id == hex_len_of kind) then Some WrongKind else if is_above last id then None else Some NotRising

-- the error of digits that are more than an id has, though the list is in order
abbrev pub error_of_all : Search → List ℕ → List (List ℕ) → Option SearchError
error_of_all (Sorted alphabet) digits ids = if nat_lt (least_hex_len ids) (length digits) then Some (PrefixTooLong (length digits) (least_hex_len ids)) else None
error_of_all (In kind) digits ids = None

-- the error of the first of some ids, counted from n, that is refused after the previous one; `last` is the id before them
unfoldable pub first_refused : Search → Option (List ℕ) → ℕ → List (List ℕ) → Option SearchError
first_refused search last n [] = None
first_refused search last n (id ∷ ids) = option_or (option_map (λ why. why n) (order_error search last id)) (first_refused search (Some id) (n + 1) ids)

-- the error, or else what is found
abbrev pub error_or : {A : Type 0} → Option SearchError → A → Result A SearchError
error_or (Some error) found = Err error
error_or None found = Ok found

-- those of some ids that begin with the digits, or the first error
abbrev pub found_among : Search → List ℕ → List (List ℕ) → Result (List (List ℕ)) SearchError
found_among search digits ids = error_or (option_or (first_refused search None 1 ids) (error_of_all search digits ids)) (matches digits ids)

-- the same of what a list text reads as
abbrev pub found_in_list : Search → List ℕ → Result (List (List ℕ)) SearchError → Result (List (List ℕ)) SearchError
found_in_list search digits (Err error) = Err error
found_in_list search digits (Ok ids) = found_among search digits ids

-- and of what a prefix reads as
abbrev pub found_texts : Search → Result KindDigits PrefixError → Result (List (List ℕ)) SearchError → Result (List (List ℕ)) SearchError
found_texts search (Err error) list = Err (Prefix error)
found_texts search (Ok prefix) list = found_in_list search prefix.digits list

-- the ids of a list text that begin with a prefix, or the first error
abbrev pub finding : Search → List ℕ → List ℕ → Result (List (List ℕ)) SearchError
finding search prefix text = found_texts search (prefix_for search prefix) (list_read text)

-- the prefix reads, and the text reads as ids
pub record IsSearch (prefix_read : Result KindDigits PrefixError) (text : List ℕ) : Type 0 where
  pub start : KindDigits
  pub ids : List (List ℕ)
  pub prefix_reads : prefix_read ≡ Ok start
  pub list_reads : IsListOf text ids

-- line n, counted from 1, is the first bad one of an index of the kind, for this reason
abbrev pub IsBadLineFor : Kind → List (List ℕ) → (ℕ → IndexError) → ℕ → Type 0
IsBadLineFor kind ids reason n = (at : ℕ) × (n ≡ at + 1) × IsFirstIndexError kind ids (reason at)

-- what a result says of the digits and of the ids
abbrev pub FoundHolds : Search → List ℕ → List (List ℕ) → Result (List (List ℕ)) SearchError → Type 0
FoundHolds (Sorted alphabet) digits ids (Ok found) = IsSortedIds ids × (length digits ≤ least_hex_len ids) × (found ≡ matches digits ids)
FoundHolds (Sorted alphabet) digits ids (Err (Unsorted n)) = IsFirstUnsorted ids (n - 1)
FoundHolds (Sorted alphabet) digits ids (Err (PrefixTooLong hex_len least)) = IsSortedIds ids × (hex_len ≡ length digits) × (least ≡ least_hex_len ids) × (least < hex_len)
FoundHolds (In kind) digits ids (Ok found) = IsIndex kind ids × (found ≡ matches digits ids)
FoundHolds (In kind) digits ids (Err (WrongKind n)) = IsBadLineFor kind ids index.WrongKind n
FoundHolds (In kind) digits ids (Err (NotRising n)) = IsBadLineFor kind ids index.NotRising n
FoundHolds search digits ids answer = ⊥

-- what a result says of the prefix and of the text
abbrev pub ResultHolds : Search → List ℕ → List ℕ → Result (List (List ℕ)) SearchError → Type 0
ResultHolds search prefix text (Err (Prefix error)) = prefix_for search prefix ≡ Err error
ResultHolds search prefix text (Err (BadLine n error)) = IsOk (prefix_for search prefix) × IsFirstBadLine text n error
ResultHolds search prefix text answer = (read : IsSearch (prefix_for search prefix) text) × FoundHolds search read.start.digits read.ids answer

-- Where a search stops in what it is given, and what it has written then.

-- what is searched: a text, or the bytes of a source before and after, of which at most this number was taken
pub data Searched : Type 0 where
  Text : List ℕ → Searched
  From : ℕ → Option (List ℕ) → Option (List ℕ) → Searched

-- the bytes that were read settle a statement on all bytes of a source: it holds of the first, at most `most`, whatever follows them, or the source is at its end and it holds of all
pub record SettlesAll (Holds : List ℕ → Type 0) (most : ℕ) (old new : Option (List ℕ)) : Type 0 where
  pub text : List ℕ
  pub rest : List ℕ
  pub gives : Consumes old new (text ++ rest)
  pub short : length text ≤ most
  pub holds : ((more : List ℕ) → Holds (text ++ more)) ⊎ (Holds text × IsAtEnd new × (rest ≡ []))

-- a statement holds of all bytes of a source, at most `most`, and the source is at its end
pub record HoldsOfAll (Holds : List ℕ → Type 0) (most : ℕ) (old new : Option (List ℕ)) : Type 0 where
  pub text : List ℕ
  pub gives : Consumes old new text
  pub at_end : IsAtEnd new
  pub short : length text ≤ most
  pub holds : Holds text

-- at most `most` bytes were read, in which no bad line ended
pub record GivesGoodLines (most : ℕ) (old new : Option (List ℕ)) : Type 0 where
  pub text : List ℕ
  pub gives : Consumes old new text
  pub short : length text ≤ most
  pub good : NoBadLineEnded text

-- more than `most` bytes were read, and in the first `most` no bad line ended
pub record GivesTooMuch (most : ℕ) (old new : Option (List ℕ)) : Type 0 where
  pub bytes : List ℕ
  pub gives : Consumes old new bytes
  pub too_long : most < length bytes
  pub good : NoBadLineEnded (take most bytes)

-- a statement on the text is settled
abbrev pub Settles : Searched → (List ℕ → Type 0) → Type 0
Settles (Text text) Holds = Holds text
Settles (From most old new) Holds = SettlesAll Holds most old new

-- it holds of all of the text
abbrev pub OfAll : Searched → (List ℕ → Type 0) → Type 0
OfAll (Text text) Holds = Holds text
OfAll (From most old new) Holds = HoldsOfAll Holds most old new

-- a read failed
abbrev pub FailsToRead : Searched → Type 0
FailsToRead (Text text) = ⊥
FailsToRead (From most old new) = GivesGoodLines most old new

-- there is too much
abbrev pub IsTooMuch : Searched → Type 0
IsTooMuch (Text text) = ⊥
IsTooMuch (From most old new) = GivesTooMuch most old new

-- where a search with this result for each text stops, if its prefix reads and nothing is written. A bad line is reported as soon as it ends, and an
-- error of the ids when all is read
abbrev pub Stops : (List ℕ → Result (List (List ℕ)) SearchError) → Searched → SearchError → Type 0
Stops answer given (Prefix error) = ⊥
Stops answer given (BadLine n error) = Settles given (λ text. answer text ≡ Err (BadLine n error))
Stops answer given Memory = Settles given (λ text. IsFirstRead (lines_of text))
Stops answer given Output = ⊥
Stops answer given Input = FailsToRead given
Stops answer given TooMuch = IsTooMuch given
Stops answer given error = OfAll given (λ text. answer text ≡ Err error)

-- the result is ids, of whose lines a proper beginning was written
pub record IsWrittenInPart (letter : ℕ → ℕ) (answer : Result (List (List ℕ)) SearchError) (old new : Option (List ℕ)) : Type 0 where
  pub ids : List (List ℕ)
  pub found : answer ≡ Ok ids
  pub written : AppendsBeginning old new (printed letter ids)

-- the result is ids, whose number was returned and whose lines were written
pub record IsWritten (letter : ℕ → ℕ) (answer : Result (List (List ℕ)) SearchError) (old new : Option (List ℕ)) (count : ℕ) : Type 0 where
  pub ids : List (List ℕ)
  pub found : answer ≡ Ok ids
  pub counted : count ≡ length ids
  pub written : Appends old new (printed letter ids)

-- what a search has found and written that returns a number
abbrev pub Succeeds : Search → List ℕ → Searched → Option (List ℕ) → Option (List ℕ) → ℕ → Type 0
Succeeds search prefix given sink sink' count = OfAll given (λ text. IsWritten (letter_for search) (finding search prefix text) sink sink' count)

-- where a search stops that fails, and what it has written
abbrev pub Fails : Search → List ℕ → Searched → SearchError → Option (List ℕ) → Option (List ℕ) → Type 0
Fails search prefix given (Prefix error) sink sink' = prefix_for search prefix ≡ Err error
Fails search prefix given Output sink sink' = OfAll given (λ text. IsWrittenInPart (letter_for search) (finding search prefix text) sink sink')
Fails search prefix given error sink sink' = IsOk (prefix_for search prefix) × Stops (finding search prefix) given error

-- the error is none of the other order
abbrev pub IsOwn : Search → SearchError → Type 0
IsOwn (Sorted alphabet) (WrongKind n) = ⊥
IsOwn (Sorted alphabet) (NotRising n) = ⊥
IsOwn (In kind) (Unsorted n) = ⊥
IsOwn (In kind) (PrefixTooLong hex_len least) = ⊥
IsOwn search error = Unit {0}

-- the error is none of a source
abbrev pub IsOfText : SearchError → Type 0
IsOfText Input = ⊥
IsOfText TooMuch = ⊥
IsOfText error = Unit {0}
