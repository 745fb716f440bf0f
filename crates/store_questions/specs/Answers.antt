-- What contracts say of the answers of a store.
use Rattle.std.specs.Prelude.{ℕ, All, is_none, zero, suc, max, ◌≡◌, ◌≢◌, ◌++◌, Bool, List, [], Option, if◌then◌else◌}
use Rattle.std.specs.Global.{Global}
use Rattle.std.specs.Io.KnownBytes.{Keeps}
use Rattle.id_lookup.specs.Words.{KindDigits, first_byte_of}
use Rattle.object_store.specs.Stores.{StoreView}
use Rattle.streams.specs.Streams.{lines_of}
use Rattle.store_questions.specs.WholeLines.{AreWhole}
use Rattle.store_questions.specs.declared.request.Query.{Query}
use Rattle.packtool_commands.specs.declared.request.Question.{Question}
use Rattle.packtool_commands.specs.declared.request.Question.TheVariants.{Abbreviate, Find, Locate}
use Rattle.packtool_commands.specs.Stores.{HasAnsweredMatches, HasLocatedEach, HasAbbreviatedEach, prefixes_of}
use Rattle.packtool_commands.specs.declared.printing.Wanted.{Wanted}
use Rattle.repositories.specs.Answers.{Answers, IfKnown}
use Rattle.repositories.specs.declared.finding.ObjectDirectory.{ObjectDirectory}
use Rattle.directory_store.specs.Opened.{HasAllOf, place_of}
use Rattle.directory_store.specs.Stores.{IsListedBy}
use Rattle.directory_store.specs.declared.loose.LooseIds.{LooseIds}
use Rattle.directory_store.specs.declared.multi.Purpose.{Purpose}
use Rattle.directory_store.specs.declared.multi.Purpose.TheVariants.{Ids, Locations}
use Rattle.packtool_commands.specs.declared.printing.NoAnswer.{NoAnswer}
use Rattle.directory_store.specs.declared.error.Error.{Error}

-- the status by what was skipped, and by whether what was asked for was found: 2 if something was skipped, and else 0 or 1
abbrev pub IsStatus : List Error → Bool → ℕ → Type 0
IsStatus skipped any status = (skipped ≡ [] → status ≡ (if any then 0 else 1)) × (skipped ≢ [] → status ≡ 2)

-- what a question finds for lines was written, and `why` is why the first line that has no answer has none; A is the type of the allocator of what was found
abbrev pub HasAnsweredLines : (A : Type 0) → Question → Wanted → ℕ → (ℕ → List ℕ) → (List ℕ → List (List ℕ)) → StoreView → List (List ℕ)
    → Option NoAnswer → Option (List ℕ) → Option (List ℕ) → Type 0
HasAnsweredLines A Find wanted least pack_path loose_paths view lines why old new = HasAnsweredMatches A wanted view lines why old new
HasAnsweredLines A Locate wanted least pack_path loose_paths view lines why old new = HasLocatedEach A wanted pack_path loose_paths view lines why old new
HasAnsweredLines A Abbreviate wanted least pack_path loose_paths view lines why old new = HasAbbreviatedEach least view lines why old new

-- what a store is asked for a question
abbrev pub purpose_of : Question → Purpose
purpose_of Locate = Locations
purpose_of _ = Ids

-- a store of an object directory was asked for lines and answered with a status. It has all objects that directories and files answer, unless something is
-- skipped, and lists the loose objects that the lines may begin
pub record HasAsked (A : Type 0) (question : Question) (least : ℕ) (wanted : Wanted) (directory : ObjectDirectory) (known : Option Answers) (which : LooseIds)
    (pack_path : ℕ → List ℕ) (loose_paths : List ℕ → List (List ℕ)) (view : StoreView) (skipped : List Error) (lines : List (List ℕ)) (why : Option NoAnswer) (status : ℕ)
    (old new : Option (List ℕ)) : Type 0 where
  pub ended : IsStatus skipped (is_none why) status
  pub answered : HasAnsweredLines A question wanted least pack_path loose_paths view lines why old new
  pub kind : view.kind ≡ directory.kind
  pub listed : All (λ (prefix : KindDigits). IsListedBy which (first_byte_of prefix.digits)) (prefixes_of view.kind lines)
  pub objects : skipped ≡ [] → IfKnown (λ at. HasAllOf at (purpose_of question) which directory view) known

-- a store was asked for lines and answered so
abbrev pub IsAnswered : {R : Type 0} → (R → Option Answers) → Query R → Wanted → List (List ℕ) → ℕ → Option (List ℕ) → Option (List ℕ) → Type 0
IsAnswered answers query wanted lines status old new =
    (which : LooseIds) × (pack_path : ℕ → List ℕ) × (loose_paths : List ℕ → List (List ℕ)) × (view : StoreView) × (skipped : List Error) × (why : Option NoAnswer)
    × HasAsked Global query.question query.least wanted query.directory.now (answers query.rt.now) which pack_path loose_paths view skipped lines why status old new

-- a text was answered in n parts of whole lines, one after the other, each by a store, and the worst of their statuses is this. After each part it is kept what is
-- known of the bytes
abbrev pub HasAnsweredParts : {R : Type 0} → (R → Option Answers) → Query R → Wanted → ℕ → List ℕ → ℕ → Option (List ℕ) → Option (List ℕ) → Type 0
HasAnsweredParts answers query wanted zero text status old new = (text ≡ []) × (status ≡ 0) × Keeps old new
HasAnsweredParts answers query wanted (suc n) text status old new =
    (before : List ℕ) × (part : List ℕ) × (worst : ℕ) × (own : ℕ) × (middle : Option (List ℕ)) × (written : Option (List ℕ))
    × HasAnsweredParts answers query wanted n before worst old middle × IsAnswered answers query wanted (lines_of part) own middle written × Keeps written new
    × AreWhole part × (text ≡ before ++ part) × (status ≡ max worst own)

-- the prefixes whose loose objects are checked before a question is answered: all of them for `locate`, and none otherwise
abbrev pub checked_of : {P : Type 0} → Question → List P → List P
checked_of Locate prefixes = prefixes
checked_of _ prefixes = []

-- a store is that of an object directory, opened for a purpose, by what directories and files answer
abbrev pub IsStoreOf : ObjectDirectory → Purpose → Option Answers → ObjectDirectory → Purpose → Option Answers → Type 0
IsStoreOf directory purpose answers own asked known = (own.kind ≡ directory.kind) × (place_of own ≡ place_of directory) × (asked ≡ purpose) × (known ≡ answers)
