-- What the words of a command line ask for, and the status of the program.
use Rattle.std.specs.Prelude.{[], ℕ, ◌<◌, ◌==◌, ◌^◌, ◌∷◌, ◌≡◌, ◌≢◌, ◌⊎◌, Err, List, Ok, Result, codes, if◌then◌else◌, map}
use Rattle.std.specs.Str.Parse.{IsNumeral, digits_value, without_leading_plus}
use denote.Ref.{Bor}
use Rattle.gix_hash.specs.Words.{IsNameOf, IsNoName}
use Rattle.gix_hash.specs.declared.Kind.{Kind}
use Rattle.oidtool_commands.specs.declared.command.ArgError.{ArgError}
use Rattle.oidtool_commands.specs.declared.command.ArgError.TheVariants.{BadKind, BadNumber, Usage}
use Rattle.oidtool_commands.specs.declared.command.Command.{Command}
use Rattle.oidtool_commands.specs.declared.command.Command.TheVariants.{Find, FindChange, FindIn, Hash, HashFile, Seal}

-- the word is this number, of at most 2^64 - 1: at least one decimal digit, after a `+` or none
pub record IsNumberOf (word : List ℕ) (n : ℕ) : Type 0 where
  pub is_numeral : IsNumeral 10 (without_leading_plus word)
  pub value : n ≡ digits_value 10 (without_leading_plus word)
  pub fits : n < 2 ^ 64

-- the words ask for this command
abbrev pub AsksFor : List (List ℕ) → Command → Type 0
AsksFor words (Find prefix) = words ≡ codes "find" ∷ prefix.now ∷ []
AsksFor words (FindChange letters) = words ≡ codes "find-change" ∷ letters.now ∷ []
AsksFor words (FindIn kind prefix) = (name : List ℕ) × (words ≡ codes "find-in" ∷ name ∷ prefix.now ∷ []) × IsNameOf name kind
AsksFor words (Hash kind) = (name : List ℕ) × (words ≡ codes "hash" ∷ name ∷ []) × IsNameOf name kind
AsksFor words (HashFile kind count path) = (name : List ℕ) × (number : List ℕ) × (words ≡ codes "hash-file" ∷ name ∷ number ∷ path.now ∷ [])
    × IsNameOf name kind × IsNumberOf number count
AsksFor words (Seal kind) = (name : List ℕ) × (words ≡ codes "seal" ∷ name ∷ []) × IsNameOf name kind

-- the words are no command, or not as many as the command takes
pub record IsNoCommand (words : List (List ℕ)) : Type 0 where
  pub no_find : (prefix : List ℕ) → words ≢ codes "find" ∷ prefix ∷ []
  pub no_find_change : (letters : List ℕ) → words ≢ codes "find-change" ∷ letters ∷ []
  pub no_find_in : (kind prefix : List ℕ) → words ≢ codes "find-in" ∷ kind ∷ prefix ∷ []
  pub no_hash : (kind : List ℕ) → words ≢ codes "hash" ∷ kind ∷ []
  pub no_hash_file : (kind count path : List ℕ) → words ≢ codes "hash-file" ∷ kind ∷ count ∷ path ∷ []
  pub no_seal : (kind : List ℕ) → words ≢ codes "seal" ∷ kind ∷ []

-- the words are a command that takes this word as a kind
abbrev pub TakesKind : List (List ℕ) → List ℕ → Type 0
TakesKind words word = (words ≡ codes "hash" ∷ word ∷ []) ⊎ (words ≡ codes "seal" ∷ word ∷ [])
    ⊎ ((prefix : List ℕ) × (words ≡ codes "find-in" ∷ word ∷ prefix ∷ []))
    ⊎ ((count : List ℕ) × (path : List ℕ) × (words ≡ codes "hash-file" ∷ word ∷ count ∷ path ∷ []))

-- the word is rejected as a kind
abbrev pub IsKindRefusal : List ℕ → ArgError → Type 0
IsKindRefusal word Usage = ⊥
IsKindRefusal word (BadKind text) = (text.now ≡ word) × IsNoName word
IsKindRefusal word (BadNumber text) = ⊥

-- the word is rejected as a number
abbrev pub IsNumberRefusal : List ℕ → ArgError → Type 0
IsNumberRefusal word Usage = ⊥
IsNumberRefusal word (BadKind text) = ⊥
IsNumberRefusal word (BadNumber text) = (text.now ≡ word) × ((n : ℕ) → ¬ IsNumberOf word n)

-- the words are rejected for this cause: first the command and the number of its words, then the kind, then the number
abbrev pub IsWordsRefusal : List (List ℕ) → ArgError → Type 0
IsWordsRefusal words Usage = IsNoCommand words
IsWordsRefusal words (BadKind text) = TakesKind words text.now × IsNoName text.now
IsWordsRefusal words (BadNumber text) = (kind : Kind) × (name : List ℕ) × (path : List ℕ) × (words ≡ codes "hash-file" ∷ name ∷ text.now ∷ path ∷ [])
    × IsNameOf name kind × ((n : ℕ) → ¬ IsNumberOf text.now n)

-- the texts that words refer to
abbrev pub texts_of : List (Bor (List ℕ)) → List (List ℕ)
texts_of words = map (λ word. word.now) words

-- the status of the program: 0 if something is counted, 1 if nothing is, 2 for an error
abbrev pub status_of : {E : Type 0} → Result ℕ E → ℕ
status_of (Ok count) = if count == 0 then 1 else 0
status_of (Err e) = 2
