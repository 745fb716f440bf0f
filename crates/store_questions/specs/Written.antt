-- What is written of the objects of directories. Each object is given by the digits of its id.
use Rattle.std.specs.Prelude.{ℕ, ◌≡◌, ◌/◌, ◌%◌, ◌∷◌, ◌++◌, [], All, IfSome, List, Option, flat_map, map, suc, zero}
use Rattle.std.specs.Global.{Global}
use Rattle.std.specs.Io.KnownBytes.{Appends}
use Rattle.id_lookup.specs.Words.{Kind, id_digits, matches}
use Rattle.object_store.specs.Several.{IsAbbreviatedAs, limited_to}
use Rattle.object_store.specs.Stores.{IsAbbreviationIn}
use Rattle.object_store.specs.declared.abbreviations.Abbreviation.{Abbreviation}
use Rattle.object_store.specs.declared.locations.LocatedId.{LocatedId}
use Rattle.object_store.specs.declared.abbreviations.AbbreviatedId.{AbbreviatedId}
use Rattle.packtool_commands.specs.Stores.{HasAnsweredEach, IsTextOf, abbreviation_text, found_text, id_line, limit_for, located_lines, abbreviated_line}
use Rattle.packtool_commands.specs.declared.printing.Wanted.{Wanted}
use Rattle.streams.specs.Streams.{lines_of}
use Rattle.packtool_commands.specs.declared.request.Ask.{Ask}
use Rattle.packtool_commands.specs.declared.request.Ask.TheVariants as asks
use Rattle.packtool_commands.specs.declared.request.Question.{Question}
use Rattle.packtool_commands.specs.declared.request.Question.TheVariants.{Abbreviate, Find, Locate}

-- a text answers a line: for `find` it has the objects that begin with the prefix, for `locate` it has locations of each of them, or of the first two if one is
-- asked for, and for `abbreviate` it has the abbreviation of the only one
abbrev pub IsAnswerTo : Question → ℕ → Wanted → Kind → List (List ℕ) → List ℕ → List ℕ → Type 0
IsAnswerTo Find least wanted kind objects line text =
    IsTextOf {X = List (List ℕ)} (λ digits found. found ≡ matches digits objects) (λ l found. found_text id_line wanted l found) kind line text
IsAnswerTo Locate least wanted kind objects line text =
    (pack_path : ℕ → List ℕ)
    × IsTextOf {X = List (LocatedId Global)} (λ digits located. map (λ (l : LocatedId Global). id_digits l.id) located ≡ limited_to (limit_for wanted) (matches digits objects))
    (λ l located. found_text (located_lines pack_path) wanted l located) kind line text
IsAnswerTo Abbreviate least wanted kind objects line text =
    IsTextOf {X = Abbreviation} (λ digits abbreviated. IsAbbreviatedAs least kind objects (matches digits objects) abbreviated) abbreviation_text kind line text

-- the objects whose first byte is below n: those with each byte, in the order of the bytes
unfoldable pub by_first_byte : ℕ → List (List ℕ) → List (List ℕ)
by_first_byte zero objects = []
by_first_byte (suc n) objects = by_first_byte n objects ++ matches (n / 16 ∷ n % 16 ∷ []) objects

-- all objects were written, each after its shortest prefix of at least `least` digits with which no other one begins
pub record HasAbbreviatedAll (least : ℕ) (objects : List (List ℕ)) (old new : Option (List ℕ)) : Type 0 where
  pub abbreviated : List AbbreviatedId
  pub all : map (λ (n : AbbreviatedId). id_digits n.id) abbreviated ≡ by_first_byte 256 objects
  pub abbreviations : All (λ (n : AbbreviatedId). IsAbbreviationIn least objects (id_digits n.id) n.abbreviation.digits) abbreviated
  pub written : Appends old new (flat_map abbreviated_line abbreviated)

-- what was asked about was answered by the objects: all ids; a prefix; or the lines of an input, if it is known what it had left
abbrev pub HasWritten : Question → ℕ → Kind → List (List ℕ) → Option (List ℕ) → Ask → Option (List ℕ) → Option (List ℕ) → Type 0
HasWritten question least kind objects known asks.All old new = HasAbbreviatedAll least objects old new
HasWritten question least kind objects known (asks.Prefix text wanted) old new =
    HasAnsweredEach (IsAnswerTo question least wanted kind objects) (lines_of text.now) old new
HasWritten question least kind objects known (asks.Lines wanted) old new =
    (lines : List (List ℕ)) × IfSome known (λ text. lines ≡ lines_of text) × HasAnsweredEach (IsAnswerTo question least wanted kind objects) lines old new
