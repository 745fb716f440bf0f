-- What is printed of the ids of a store, and why that fails.
use Rattle.std.specs.Prelude.{[], ℕ, ◌++◌, ◌<◌, ◌↔◌, ◌∷◌, ◌≡◌, ◌≢◌, All, Bool, IsTrue, List, MatchOption, None, Option, Some, Vec, codes, decimal, false, flat_map, fold, if◌then◌else◌, length, map, nat_lt, string_bytes, suc, true, zero, is_some, option_map, option_to_list}
use Rattle.std.specs.Io.KnownBytes.{Appends}
use Rattle.std.specs.List.{AllZip}
use Rattle.std.specs.Option.{option_map_or, option_or}
use Rattle.id_lookup.specs.Words.{Kind, KindDigits, ObjectId, digits_read, first_byte_of, hex_len_of, hex_letter, id_digits, spelling}
use Rattle.streams.specs.Streams.{AppendsAtMost, AppendsBeginning}
use Rattle.pack_index.specs.Format.{Each}
use Rattle.object_store.specs.Several.{AreAbbreviatedOfEach, AreLocatedOfEach, AreAbbreviated}
use Rattle.object_store.specs.Stores.{AreMatchesOfEach, HaveBuckets, IsListed, IsStoreFault, StoreView}
use Rattle.object_store.specs.declared.error.Error.{Error}
use Rattle.object_store.specs.declared.locations.LocatedId.{LocatedId}
use Rattle.object_store.specs.declared.locations.Location.{Location}
use Rattle.object_store.specs.declared.locations.Location.TheVariants.{Loose, Packed}
use Rattle.object_store.specs.declared.abbreviations.Abbreviation.{Abbreviation}
use Rattle.object_store.specs.declared.abbreviations.Abbreviation.TheVariants.{Ambiguous, Missing, Unique}
use Rattle.object_store.specs.declared.abbreviations.AbbreviatedId.{AbbreviatedId}
use Rattle.packtool_commands.specs.Files.{escape_mark, escape_of}
use Rattle.packtool_commands.specs.declared.printing.Wanted.{Wanted}
use Rattle.packtool_commands.specs.declared.printing.Wanted.TheVariants as forms
use Rattle.packtool_commands.specs.declared.printing.NoAnswer.{NoAnswer}
use Rattle.packtool_commands.specs.declared.printing.NoAnswer.TheVariants as no_answers
use Rattle.packtool_commands.specs.declared.error.StoreError.{StoreError}
use Rattle.packtool_commands.specs.declared.error.StoreError.TheVariants.{Output, Store, TooMany}

-- what an error says about a store: what the error of a look-up says; any other error says nothing
abbrev pub IsFaultOf : (Error → Type 0) → StoreError → Type 0
IsFaultOf IsItsFault (Store error) = IsItsFault error
IsFaultOf IsItsFault TooMany = Unit {0}
IsFaultOf IsItsFault Output = Unit {0}

-- why a walk over the first bytes fails: the look-up with one of them fails, and those with the lower ones did not, in a store as it was seen
abbrev pub IsWalkFault : (StoreView → Type 0) → StoreView → Error → Type 0
IsWalkFault Sees view error = (byte : ℕ) × (byte < 256) × Each (λ lower. (seen : StoreView) × Sees seen × HaveBuckets seen lower) byte × IsStoreFault view byte error

-- What is printed for many prefixes, which are the lines of a text.

-- a prefix that has 2 digits or more
abbrev pub of_two : Option KindDigits → Option KindDigits
of_two None = None
of_two (Some prefix) = if nat_lt (length prefix.digits) 2 then None else Some prefix

-- the prefix that a line is: its digits in hex, in either letter case, from 2 up to as many as ids of the kind have
abbrev pub prefix_of : Kind → List ℕ → Option KindDigits
prefix_of kind line = if nat_lt (hex_len_of kind) (length line) then None else of_two (option_map (λ (digits : List ℕ). record { kind = kind; digits = digits }) (digits_read hex_letter line))

-- the prefixes among lines
abbrev pub prefixes_of : Kind → List (List ℕ) → List KindDigits
prefixes_of kind lines = flat_map (λ line. option_to_list (prefix_of kind line)) lines

-- the loose objects that may begin with the prefixes were listed
abbrev pub AreListed : StoreView → List KindDigits → Type 0
AreListed view prefixes = All (λ (prefix : KindDigits). IsListed view (first_byte_of prefix.digits)) prefixes

-- a line, a space, a text and a line feed
abbrev pub line_with : List ℕ → List ℕ → List ℕ
line_with line text = line ++ (32 ∷ (text ++ 10 ∷ []))

-- an id in hex and a line feed, after a front, which is a line of the text and a space, or nothing
abbrev pub id_line : List ℕ → List ℕ → List ℕ
id_line front id = front ++ (spelling hex_letter id ++ 10 ∷ [])

-- what is printed for a prefix by what was found, where each thing that was found has a text after a front: all texts, each after the line and a space or after
-- nothing, or the only one; and if there is none, or more than one and one is asked for, the line and which of the two it is, or nothing
abbrev pub found_text : {X : Type 0} → (List ℕ → X → List ℕ) → Wanted → List ℕ → List X → List ℕ
found_text text forms.All line [] = line_with line (codes "missing")
found_text text forms.All line (x ∷ xs) = flat_map (text (line ++ 32 ∷ [])) (x ∷ xs)
found_text text forms.One line [] = line_with line (codes "missing")
found_text text forms.One line (x ∷ []) = text [] x
found_text text forms.One line (x ∷ (other ∷ xs)) = line_with line (codes "ambiguous")
found_text text forms.Bare line xs = flat_map (text []) xs
found_text text forms.BareOne line [] = []
found_text text forms.BareOne line (x ∷ []) = text [] x
found_text text forms.BareOne line (x ∷ (other ∷ xs)) = []

-- how many of the things are needed for that: all, or, if one is asked for, the first two, which show whether there are several
abbrev pub limit_for : Wanted → Option ℕ
limit_for forms.All = None
limit_for forms.One = Some 2
limit_for forms.Bare = None
limit_for forms.BareOne = Some 2

-- why the things that were found are not an answer, or none if they are one: there is none, or more than one and one is asked for
abbrev pub no_answer : {X : Type 0} → Wanted → List X → Option NoAnswer
no_answer wanted [] = Some no_answers.Missing
no_answer wanted (x ∷ []) = None
no_answer wanted (x ∷ (other ∷ xs)) = if is_some (limit_for wanted) then Some no_answers.Ambiguous else None

-- lines, and whether each is a prefix
abbrev pub marked : Kind → List (List ℕ) → List (List ℕ × Bool)
marked kind lines = map (λ line. (line, is_some (prefix_of kind line))) lines

-- lines, each with the next of what was found if it is a prefix
abbrev pub with_found : {X : Type 0} → List (List ℕ × Bool) → List X → List (List ℕ × Option X)
with_found [] found = []
with_found ((line, false) ∷ lines) found = (line, None) ∷ with_found lines found
with_found ((line, true) ∷ lines) [] = (line, None) ∷ with_found lines []
with_found ((line, true) ∷ lines) (x ∷ found) = (line, Some x) ∷ with_found lines found

-- what is printed for a line, with what was found if it is a prefix
abbrev pub answer_of : {X : Type 0} → (List ℕ → X → List ℕ) → List ℕ × Option X → List ℕ
answer_of text (line, None) = line_with line (codes "bad")
answer_of text (line, Some x) = text line x

-- what is printed for lines, by what was found for the prefixes among them
unfoldable pub answers_by : {X : Type 0} → (List ℕ → X → List ℕ) → Kind → List (List ℕ) → List X → List ℕ
answers_by text kind lines found = flat_map (answer_of text) (with_found (marked kind lines) found)

-- why the first line that has no answer has none, where `lacks` says why what was found for a prefix is not an answer
unfoldable pub no_answer_by : {X : Type 0} → (X → Option NoAnswer) → Kind → List (List ℕ) → List X → Option NoAnswer
no_answer_by lacks kind lines found =
    fold (λ before answer. option_or before (option_map_or lacks answer.1 (Some no_answers.Bad))) None (with_found (marked kind lines) found)

-- what is printed for lines, by what was found for the prefixes among them, was written, and `why` is why the first line that has no answer has none
pub record HasAnsweredBy {X : Type 0} (AreFound : List X → Type 0) (text : List ℕ → X → List ℕ) (lacks : X → Option NoAnswer) (kind : Kind)
    (lines : List (List ℕ)) (why : Option NoAnswer) (old new : Option (List ℕ)) : Type 0 where
  pub results : List X
  pub are_found : AreFound results
  pub first : why ≡ no_answer_by lacks kind lines results
  pub written : Appends old new (answers_by text kind lines results)

-- a proper beginning of it was written
pub record HasBegunBy {X : Type 0} (AreFound : List X → Type 0) (text : List ℕ → X → List ℕ) (kind : Kind) (lines : List (List ℕ)) (old new : Option (List ℕ)) :
    Type 0 where
  pub results : List X
  pub are_found : AreFound results
  pub written : AppendsBeginning old new (answers_by text kind lines results)

-- what is written for a line: if it is a prefix, the text of something that is found for it
abbrev pub IsTextOf : {X : Type 0} → (List ℕ → X → Type 0) → (List ℕ → X → List ℕ) → Kind → List ℕ → List ℕ → Type 0
IsTextOf {X} Finds text kind line written =
    MatchOption (prefix_of kind line) (written ≡ line_with line (codes "bad")) (λ prefix. (x : X) × Finds prefix.digits x × (written ≡ text line x))

-- a text was written for each line
pub record HasAnsweredEach (IsText : List ℕ → List ℕ → Type 0) (lines : List (List ℕ)) (old new : Option (List ℕ)) : Type 0 where
  pub texts : List (List ℕ)
  pub each : AllZip IsText lines texts
  pub written : Appends old new (flat_map (λ (one : List ℕ). one) texts)

-- the ids that begin with each prefix were found and printed, and `why` is why the first line that has no answer has none; A is the type of the allocator of
-- what was found
abbrev pub HasAnsweredMatches : (A : Type 0) → Wanted → StoreView → List (List ℕ) → Option NoAnswer → Option (List ℕ) → Option (List ℕ) → Type 0
HasAnsweredMatches A wanted view lines why old new =
    HasAnsweredBy {X = Vec ObjectId A} (AreMatchesOfEach view (prefixes_of view.kind lines))
    (λ line ids. found_text (λ front (id : ObjectId). id_line front (id_digits id)) wanted line ids.items) (λ ids. no_answer wanted ids.items) view.kind lines why old new

-- a proper beginning of it was printed
abbrev pub HasBegunMatches : (A : Type 0) → Wanted → StoreView → List (List ℕ) → Option (List ℕ) → Option (List ℕ) → Type 0
HasBegunMatches A wanted view lines old new =
    HasBegunBy {X = Vec ObjectId A} (AreMatchesOfEach view (prefixes_of view.kind lines))
    (λ line ids. found_text (λ front (id : ObjectId). id_line front (id_digits id)) wanted line ids.items) view.kind lines old new

-- The lines of the ids of a store, each with its abbreviation.

-- the line of an id: its abbreviation and the id, both in hex, a space between them, and a line feed
unfoldable pub abbreviated_line : AbbreviatedId → List ℕ
abbreviated_line n = spelling hex_letter n.abbreviation.digits ++ 32 ∷ spelling hex_letter (id_digits n.id) ++ 10 ∷ []

-- these are the ids whose first byte is below n, a byte after the other, each with its abbreviation: those with one byte in one of the stores that were seen
unfoldable pub AreAbbreviatedBelow : ℕ → ℕ → (StoreView → Type 0) → List AbbreviatedId → Type 0
AreAbbreviatedBelow zero least Sees abbreviated = abbreviated ≡ []
AreAbbreviatedBelow (suc n) least Sees abbreviated =
    (before : List AbbreviatedId) × (part : List AbbreviatedId) × (seen : StoreView)
    × AreAbbreviatedBelow n least Sees before × Sees seen × AreAbbreviated least seen n part × (abbreviated ≡ before ++ part)

-- their lines were written, and whether there is one is this
pub record HasAbbreviatedBelow (n least : ℕ) (Sees : StoreView → Type 0) (any : Bool) (old new : Option (List ℕ)) : Type 0 where
  pub abbreviated : List AbbreviatedId
  pub are_abbreviated : AreAbbreviatedBelow n least Sees abbreviated
  pub found : IsTrue any ↔ (abbreviated ≢ [])
  pub written : Appends old new (flat_map abbreviated_line abbreviated)

-- a beginning of such lines was written, or all
pub record HasAbbreviatedAtMost (least : ℕ) (Sees : StoreView → Type 0) (old new : Option (List ℕ)) : Type 0 where
  pub n : ℕ
  pub abbreviated : List AbbreviatedId
  pub are_abbreviated : AreAbbreviatedBelow n least Sees abbreviated
  pub written : AppendsAtMost old new (flat_map abbreviated_line abbreviated)

-- what is printed for a line that is a prefix: the abbreviation of the only id that begins with it
abbrev pub abbreviation_text : List ℕ → Abbreviation → List ℕ
abbreviation_text line Missing = line_with line (codes "missing")
abbreviation_text line Ambiguous = line_with line (codes "ambiguous")
abbreviation_text line (Unique abbreviated) = spelling hex_letter abbreviated.abbreviation.digits ++ 10 ∷ []

-- why there is no abbreviation
abbrev pub no_abbreviation : Abbreviation → Option NoAnswer
no_abbreviation Missing = Some no_answers.Missing
no_abbreviation Ambiguous = Some no_answers.Ambiguous
no_abbreviation (Unique abbreviated) = None

-- the abbreviations for the prefixes among lines were found and printed, and `why` is why the first line that has no abbreviation has none
abbrev pub HasAbbreviatedEach : ℕ → StoreView → List (List ℕ) → Option NoAnswer → Option (List ℕ) → Option (List ℕ) → Type 0
HasAbbreviatedEach least view lines why old new =
    HasAnsweredBy (AreAbbreviatedOfEach least view (prefixes_of view.kind lines)) abbreviation_text no_abbreviation view.kind lines why old new

-- a proper beginning of it was printed
abbrev pub HasBegunAbbreviatedEach : ℕ → StoreView → List (List ℕ) → Option (List ℕ) → Option (List ℕ) → Type 0
HasBegunAbbreviatedEach least view lines old new = HasBegunBy (AreAbbreviatedOfEach least view (prefixes_of view.kind lines)) abbreviation_text view.kind lines old new

-- The lines of the locations of objects.

-- what is after the path: the offset in a pack after a space, if there is one, and a line feed
abbrev pub location_end : Option ℕ → List ℕ
location_end (Some offset) = 32 ∷ decimal offset ++ 10 ∷ []
location_end None = 10 ∷ []

-- the id in hex, a space, the path of the file, and the offset, after a front; a backslash before all if a byte of the path is escaped
abbrev pub location_line : List ℕ → List ℕ → List ℕ → Option ℕ → List ℕ
location_line front id path offset = escape_mark path ++ (front ++ ((spelling hex_letter id ++ 32 ∷ []) ++ (flat_map escape_of path ++ location_end offset)))

-- the lines of a location of an id: one of a pack, and one of each file of a loose object
abbrev pub lines_at_after : {A : Type 0} → (ℕ → List ℕ) → List ℕ → LocatedId A → Location → List ℕ
lines_at_after pack_path front located (Packed pack offset) = location_line front (id_digits located.id) (pack_path pack) (Some offset)
lines_at_after pack_path front located Loose = flat_map (λ path. location_line front (id_digits located.id) (string_bytes path) None) located.loose_paths.items

-- the lines of the locations of an id, each with the front
abbrev pub located_lines : {A : Type 0} → (ℕ → List ℕ) → List ℕ → LocatedId A → List ℕ
located_lines pack_path front located = flat_map (lines_at_after pack_path front located) located.locations.items

-- as many of the ids that begin with each prefix among lines as are needed were located, the lines of their locations were printed, and `why` is why the first
-- line that has no answer has none; A is the type of the allocator of what was found
abbrev pub HasLocatedEach : (A : Type 0) → Wanted → (ℕ → List ℕ) → (List ℕ → List (List ℕ)) → StoreView → List (List ℕ) → Option NoAnswer → Option (List ℕ)
    → Option (List ℕ) → Type 0
HasLocatedEach A wanted pack_path loose_paths view lines why old new =
    HasAnsweredBy {X = Vec (LocatedId A) A} (AreLocatedOfEach (limit_for wanted) view loose_paths (prefixes_of view.kind lines))
    (λ line ids. found_text (located_lines pack_path) wanted line ids.items) (λ ids. no_answer wanted ids.items) view.kind lines why old new

-- a proper beginning of it was printed
abbrev pub HasBegunLocatedEach : (A : Type 0) → Wanted → (ℕ → List ℕ) → (List ℕ → List (List ℕ)) → StoreView → List (List ℕ) → Option (List ℕ)
    → Option (List ℕ) → Type 0
HasBegunLocatedEach A wanted pack_path loose_paths view lines old new =
    HasBegunBy {X = Vec (LocatedId A) A} (AreLocatedOfEach (limit_for wanted) view loose_paths (prefixes_of view.kind lines))
    (λ line ids. found_text (located_lines pack_path) wanted line ids.items) view.kind lines old new
