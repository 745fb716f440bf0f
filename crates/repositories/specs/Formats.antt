-- What the variables of a config (git-config) say of a repository's format and its ids, as setup.c reads them.
use Rattle.std.specs.Prelude.{◌≡◌, ℕ, ◌&&◌, ◌||◌, not, if◌then◌else◌, Option, Some, None, Result, Ok, Err, List, [], ◌∷◌, find, map, codes, bytes_eq, option_and_then, option_map, unwrap_or, is_some, ℤ, pos, negsuc, int_lt, string_bytes, IfSome}
use Rattle.std.specs.List.{list_any}
use Rattle.std.specs.Option.{option_or}
use Rattle.std.specs.Str.Lossy.{utf8_lossy}
use Rattle.git_config.specs.Grammar.{IsConfig, after_prefix}
use Rattle.git_config.specs.Values.{is_boolean, number}
use Rattle.git_config.specs.Views.{said}
use Rattle.git_config.specs.declared.Variable.{Variable}
use Rattle.gix_hash.specs.declared.Kind.{Kind}
use Rattle.gix_hash.specs.declared.Kind.TheVariants.{Sha1, Sha256}
use Rattle.repositories.specs.declared.config.ConfigError.{ConfigError}
use Rattle.repositories.specs.declared.config.ConfigError.TheVariants.{Line, NoVersion, NoBoolean, Version, Extension, NeedsVersion1, Kind as WrongKind, Memory}
use Rattle.repositories.specs.declared.config.Name.{Name}
use Rattle.repositories.specs.declared.config.Name.TheVariants.{Bare, NoopV1, ObjectFormat, PreciousObjects, RefStorage, RelativeWorktrees, WorktreeConfig}

-- why a config says no kind
pub data Fault : Type 0 where
  BadLine : ℕ → Fault
  BadVersion : Fault
  BadBoolean : Name → Fault
  BadKind : Fault
  UnknownVersion : ℤ → Fault
  UnknownExtension : List ℕ → Fault
  OnlyInVersion1 : Name → Fault

-- the text of a name
abbrev pub text_of : Name → List ℕ
text_of Bare = codes "core.bare"
text_of PreciousObjects = codes "extensions.preciousobjects"
text_of WorktreeConfig = codes "extensions.worktreeconfig"
text_of NoopV1 = codes "noop-v1"
text_of ObjectFormat = codes "objectformat"
text_of RefStorage = codes "refstorage"
text_of RelativeWorktrees = codes "relativeworktrees"

-- the names of the variables about the format that are booleans
abbrev pub booleans : List Name
booleans = Bare ∷ PreciousObjects ∷ WorktreeConfig ∷ []

-- the extensions that only version 1 has
abbrev pub of_version_1 : List Name
of_version_1 = NoopV1 ∷ ObjectFormat ∷ RefStorage ∷ RelativeWorktrees ∷ []

-- the extensions that version 0 has, too
abbrev pub of_any_version : List (List ℕ)
of_any_version = codes "noop" ∷ codes "partialclone" ∷ codes "preciousobjects" ∷ codes "worktreeconfig" ∷ []

-- the name among some that this one is, if it is one of them
abbrev pub known : List Name → List ℕ → Option Name
known names name = find (λ known. bytes_eq name (text_of known)) names

-- the name of an extension that a variable sets
abbrev pub extension : List ℕ → Option (List ℕ)
extension name = after_prefix (codes "extensions.") name

-- the value of a variable, if it has this name
abbrev pub value_named : List ℕ → Variable → Option (List ℕ)
value_named name variable = if bytes_eq variable.name.items name then (said variable).value else None

-- the version that a variable sets
abbrev pub version_of : Variable → Option ℤ
version_of variable = option_and_then number (value_named (codes "core.repositoryformatversion") variable)

-- the kind that a variable sets
abbrev pub kind_of : Variable → Option Kind
kind_of variable = option_and_then (λ text. if bytes_eq text (codes "sha1") then Some Sha1 else if bytes_eq text (codes "sha256") then Some Sha256 else None)
    (value_named (codes "extensions.objectformat") variable)

-- the extension that a variable sets, if only version 1 has it
abbrev pub needs_of : Variable → Option Name
needs_of variable = option_and_then (known of_version_1) (extension variable.name.items)

-- the extension that a variable sets, if no version has it
abbrev pub unknown_of : Variable → Option (List ℕ)
unknown_of variable = option_and_then (λ name. if is_some (known of_version_1 name) || list_any (bytes_eq name) of_any_version then None else Some name) (extension variable.name.items)

-- what is wrong with the value of a variable
abbrev pub fault_of : Variable → Option Fault
fault_of variable =
    if bytes_eq variable.name.items (codes "core.repositoryformatversion") && not (is_some (version_of variable)) then Some BadVersion else
    if bytes_eq variable.name.items (codes "extensions.objectformat") && not (is_some (kind_of variable)) then Some BadKind else
    if is_boolean (said variable).value then None else option_map BadBoolean (known booleans variable.name.items)

-- what the last of these variables sets that sets something, or else what was set before
abbrev pub last_of : {T : Type 0} → (Variable → Option T) → Option T → List Variable → Option T
last_of pick before [] = before
last_of pick before (variable ∷ rest) = last_of pick (option_or (pick variable) before) rest

-- the fault of the first value that is wrong
abbrev pub first_fault : List Variable → Option Fault
first_fault [] = None
first_fault (variable ∷ rest) = option_or (fault_of variable) (first_fault rest)

-- the fault if there is one, or else what the format says
abbrev pub unless : Option Fault → Result Kind Fault → Result Kind Fault
unless (Some fault) format = Err fault
unless None format = format

-- the kind in a format: SHA-1 without a version and in version -1, which Git takes for none; in other versions the kind that was set, or SHA-1. Versions 0 and 1 must have all extensions, and no higher version is known
abbrev pub kind_in_format : Option ℤ → Option Kind → Option Name → Option (List ℕ) → Result Kind Fault
kind_in_format version_set kind_set needs unknown =
    let version = unwrap_or version_set (negsuc 0) in
    let kind = unwrap_or kind_set Sha1 in
    if int_lt version (negsuc 0) then Ok kind else
    if int_lt version (pos 0) then Ok Sha1 else
    if int_lt version (pos 1) then unless (option_map OnlyInVersion1 needs) (Ok kind) else
    if int_lt version (pos 2) then unless (option_map (λ name. UnknownExtension (utf8_lossy name)) unknown) (Ok kind) else Err (UnknownVersion version)

-- what a config with these variables says, up to a bad line if there is one: the first fault of a value, or else that of the line, or else what the format says
abbrev pub kind_or_fault : List Variable → Option ℕ → Result Kind Fault
kind_or_fault variables bad_line =
    unless (option_or (first_fault variables) (option_map BadLine bad_line))
    (kind_in_format (last_of version_of None variables) (last_of kind_of None variables) (last_of needs_of None variables) (last_of unknown_of None variables))

-- the fault that an error reports, unless memory ran out
abbrev pub reported : ConfigError → Option Fault
reported (Line number) = Some (BadLine number)
reported NoVersion = Some BadVersion
reported (NoBoolean name) = Some (BadBoolean name)
reported (Version version) = Some (UnknownVersion version)
reported (Extension name) = Some (UnknownExtension (string_bytes name))
reported (NeedsVersion1 name) = Some (OnlyInVersion1 name)
reported WrongKind = Some BadKind
reported (Memory error) = None

-- a function returned this outcome, unless memory ran out
abbrev pub Reports : Result Kind Fault → Result Kind ConfigError → Type 0
Reports outcome (Ok kind) = outcome ≡ Ok kind
Reports outcome (Err error) = IfSome (reported error) (λ fault. outcome ≡ Err fault)

-- a function returned what the text of a config says, unless memory ran out
abbrev pub Says : List ℕ → Result Kind ConfigError → Type 0
Says text result = (variables : List Variable) × (bad_line : Option ℕ) × IsConfig text (map said variables) bad_line × Reports (kind_or_fault variables bad_line) result
