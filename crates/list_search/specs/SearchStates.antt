-- The states of a search that reads its list in chunks: what its reader and its finder have taken.
use Rattle.std.specs.Prelude.{[], ℕ, ◌++◌, ◌+◌, ◌<◌, ◌∷◌, ◌≡◌, ◌≤◌, All, List, Ok, false, flat_map, length, map, take, ◌&&◌, ◌==◌, Bool, None, Option, Some, if◌then◌else◌, not, slice_index, true}
use Rattle.std.specs.List.{AllZip, slice_range}
use Rattle.id_lookup.specs.Words.{ObjectId, full_read, hex_letter, whole_of, hex_len_of, id_digits, least_hex_len, matches}
use Rattle.list_search.specs.declared.error.SearchError.{SearchError}
use Rattle.list_search.specs.declared.error.SearchError.TheVariants.{NotRising, Unsorted}
use Rattle.list_search.specs.declared.list_reader.ListReader.{ListReader}
use Rattle.std.specs.Cmp.Lexicographic.{slice_cmp}
use Rattle.std.specs.Option.{option_map}
use Rattle.std.specs.Ordering.{is_lt, nat_cmp}
use Rattle.list_search.specs.declared.search.Search.{Search}
use Rattle.list_search.specs.declared.search.Search.TheVariants.{In, Sorted}
use Rattle.list_search.specs.declared.finder.Finder.{Finder}
use Rattle.list_search.specs.Lists.{IsLine, IsListRefusal, ended}
use Rattle.list_search.specs.Searches.{error_of_all, first_refused}

-- A list text that is taken in chunks, which may cut lines anywhere.

-- of a text that was taken, the ids are those of the lines that ended, and of the line that did not, the length is known and up to 64 bytes
pub record HasTaken (ids : List ObjectId) (kept : List ℕ) (len : ℕ) (text : List ℕ) : Type 0 where
  pub lines : List (List ℕ)
  pub last : List ℕ
  pub text_is : text ≡ flat_map ended lines ++ last
  pub each_a_line : All IsLine lines
  pub not_ended : IsLine last
  pub read : map (full_read hex_letter) lines ≡ map (λ id. Ok (whole_of id)) ids
  pub last_len : len ≡ length last
  pub last_kept : take 64 last ≡ take len kept

-- a reader comes from one state to another by these bytes: what it had taken grows by them
pub record Takes {A : Type 0} (old new : ListReader A) (bytes : List ℕ) : Type 0 where
  pub taken : (earlier : List ObjectId) (text : List ℕ) → HasTaken (earlier ++ old.ids.items) old.line old.len text
      → HasTaken (earlier ++ new.ids.items) new.line new.len (text ++ bytes)
  pub dropped : new.dropped ≡ old.dropped
  pub short : length new.ids.items + new.len ≤ length old.ids.items + old.len + length bytes

-- after what a reader in this state has taken, the text is rejected for these bytes, whatever follows them
abbrev pub IsRefusalAfter : {A : Type 0} → ListReader A → List ℕ → SearchError → Type 0
IsRefusalAfter old bytes error = (earlier : List ObjectId) (text more : List ℕ) → length earlier ≡ old.dropped
    → HasTaken (earlier ++ old.ids.items) old.line old.len text → IsListRefusal (text ++ (bytes ++ more)) error

-- from one index to the next the chunk has a line that reads as the id, and its line feed
pub record HasIdLine (chunk : List ℕ) (at next : ℕ) (id : ObjectId) : Type 0 where
  pub line : List ℕ
  pub is_line : IsLine line
  pub reads : full_read hex_letter line ≡ Ok (whole_of id)
  pub is_there : slice_range chunk at next ≡ ended line
  pub onward : at < next
  pub in_chunk : next ≤ length chunk

-- The ids that were taken.

-- the last of some ids, or `last` if there are none
abbrev pub last_or : Option (List ℕ) → List (List ℕ) → Option (List ℕ)
last_or last [] = last
last_or last (id ∷ ids) = last_or (Some id) ids

-- the smallest number of digits of an id, if it matters
abbrev pub IsLeast : Search → ℕ → List (List ℕ) → Type 0
IsLeast (Sorted alphabet) least ids = least ≡ least_hex_len ids
IsLeast (In kind) least ids = Unit {0}

-- the error of the first of some ids, on line n, for the id before them, if it has none by itself
abbrev pub error_of_first : Search → ℕ → Option (List ℕ) → List (List ℕ) → Option SearchError
error_of_first search n None ids = None
error_of_first search n (Some last) [] = None
error_of_first (Sorted alphabet) n (Some last) (id ∷ ids) = if is_lt (slice_cmp nat_cmp id last) then Some (Unsorted n) else None
error_of_first (In kind) n (Some last) (id ∷ ids) = if (length id == hex_len_of kind) && not (is_lt (slice_cmp nat_cmp last id)) then Some (NotRising n) else None

-- the state of a finder that took these ids: their number, the error of the first that is refused, and, if none is, the last of them, their smallest
-- number of digits, and those that are found
pub record HasFound {A : Type 0} (search : Search) (digits : List ℕ) (ids : List (List ℕ)) (finder : Finder A) : Type 0 where
  pub counted : finder.count ≡ length ids
  pub in_order : finder.refusal ≡ first_refused search None 1 ids
  pub is_last : finder.refusal ≡ None → option_map id_digits finder.last ≡ last_or None ids
  pub is_least : finder.refusal ≡ None → IsLeast search finder.min_hex_len ids
  pub are_found : finder.refusal ≡ None → error_of_all search digits ids ≡ None → map id_digits finder.found.items ≡ matches digits ids

-- Lines of ids that a search skips, and what it does with a chunk.

-- a search takes ids of n digits
abbrev pub TakesLength : Search → ℕ → Type 0
TakesLength (Sorted alphabet) n = Unit {0}
TakesLength (In kind) n = n ≡ hex_len_of kind

-- whether an id may be repeated in the list of a search
abbrev pub allows_repeats : Search → Bool
allows_repeats (Sorted alphabet) = true
allows_repeats (In kind) = false

-- the line begins with n letters that read as the id, and a line feed
pub record IsLineOfId (n : ℕ) (line : List ℕ) (id : ObjectId) : Type 0 where
  pub feed : slice_index line n ≡ 10
  pub reads : full_read hex_letter (take n line) ≡ Ok (whole_of id)

-- and so is each of the lines, with the id at the same index
abbrev pub AreLinesOf : ℕ → List (List ℕ) → List ObjectId → Type 0
AreLinesOf n lines ids = AllZip (IsLineOfId n) lines ids

-- lines of ids of n digits can be skipped: after the id `last` they are in order, and none of them begins with the digits. `end` is the last of them
pub record CanSkip (search : Search) (digits : List ℕ) (n : ℕ) (last : Option (List ℕ)) (lines : List (List ℕ)) (end : ObjectId) : Type 0 where
  pub ids : List ObjectId
  pub each : AreLinesOf n lines ids
  pub is_last : Some (id_digits end) ≡ last_or last (map id_digits ids)
  pub in_order : (number : ℕ) → first_refused search last number (map id_digits ids) ≡ None
  pub least : IsLeast search n (map id_digits ids)
  pub none : matches digits (map id_digits ids) ≡ []

-- a finder has skipped lines: its state is as if it had taken their ids
pub record HasSkipped {A : Type 0} (search : Search) (digits : List ℕ) (n : ℕ) (lines : List (List ℕ)) (old new : Finder A) : Type 0 where
  pub ids : List ObjectId
  pub each : AreLinesOf n lines ids
  pub counted : new.count ≡ old.count + length ids
  pub found : (before : List (List ℕ)) → HasFound search digits before old → HasFound search digits (before ++ map id_digits ids) new

-- the state of a search that has taken a text: the reader has taken the text, and the finder the ids that the reader has dropped
pub record HasSearched {A : Type 0} (search : Search) (digits : List ℕ) (reader : ListReader A) (finder : Finder A) (text : List ℕ) : Type 0 where
  pub earlier : List ObjectId
  pub dropped : length earlier ≡ reader.dropped
  pub found : HasFound search digits (map id_digits earlier) finder
  pub taken : HasTaken (earlier ++ reader.ids.items) reader.line reader.len text

-- a search comes from one state to another by these bytes: what it had taken grows by them
pub record Searches {A : Type 0} (search : Search) (digits : List ℕ) (reader reader' : ListReader A) (finder finder' : Finder A) (bytes : List ℕ) : Type 0 where
  pub onward : (text : List ℕ) → HasSearched search digits reader finder text → HasSearched search digits reader' finder' (text ++ bytes)
  pub empty : reader'.ids.items ≡ []
  pub count : finder'.count ≡ reader'.dropped
  pub short : reader'.dropped + reader'.len ≤ reader.dropped + reader.len + length bytes

-- after what a search in this state has taken, the text is rejected for these bytes, whatever follows them
abbrev pub IsRefusedIn : {A : Type 0} → Search → List ℕ → ListReader A → Finder A → List ℕ → SearchError → Type 0
IsRefusedIn search digits reader finder bytes error = (text more : List ℕ) → HasSearched search digits reader finder text → IsListRefusal (text ++ (bytes ++ more)) error
