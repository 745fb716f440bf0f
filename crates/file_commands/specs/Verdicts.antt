-- What contracts say of checked files.
use Rattle.std.specs.Prelude.{ℕ, ◌≡◌, ◌↔◌, ◌++◌, ◌∷◌, [], Bool, IsTrue, List, None, Option, Some, codes, string_bytes}
use Rattle.std.specs.Io.KnownBytes.{Appends}
use Rattle.gix_hash.specs.declared.Kind.{Kind}
use Rattle.gix_hash.specs.declared.Kind.TheVariants.{Sha1, Sha256}
use Rattle.gix_hash.specs.declared.ObjectId.{ObjectId}
use Rattle.gix_hash.specs.Kinds.{name_of}
use Rattle.pack_index.specs.Format.{IndexFile}
use Rattle.pack_index.specs.Multi.{IsReadAsMulti}
use Rattle.pack_index.specs.declared.layout.Layout.{Layout}
use Rattle.file_commands.specs.declared.files.Verdict.{Verdict}
use Rattle.file_commands.specs.declared.files.Verdict.TheVariants.{Alone, Ends, Faulty, FaultyMulti, Paired, Skipped}
use Rattle.file_commands.specs.declared.multi.Fault.{Fault}
use Rattle.file_commands.specs.declared.multi.Fault.TheVariants as faults
use Rattle.packtool_commands.specs.Files.{IsOpenedAs, IsRefusalAs, file_line, hex_of, pairing_verdict, verdict}
use Rattle.packtool_commands.specs.declared.pairing.Pairing.TheVariants.{Same}
use Rattle.streams.specs.Streams.{HasEnding, HasEndingOfEither}
use Rattle.streams.specs.declared.checking.Ending.{Ending}
use Rattle.streams.specs.declared.checking.Ending.TheVariants.{Sealed}

-- a file passed its check: it ends with its digest, and has no fault as a multi-pack-index; or it is a pack index that belongs to the pack beside it, if there is
-- one; or it has no digest
abbrev pub IsRight : Verdict → Type 0
IsRight Skipped = Unit {0}
IsRight (Ends ending) = (id : _) × (ending ≡ Sealed id)
IsRight (FaultyMulti fault) = ⊥
IsRight (Faulty error) = ⊥
IsRight Alone = Unit {0}
IsRight (Paired pairing) = pairing ≡ Same

-- the verdict on the bytes of a pack index, of a given kind or of either: why they are not one; or that they are one, and its relation to the pack beside it
abbrev pub IsVerdictOn : Option Kind → List ℕ → Verdict → Type 0
IsVerdictOn kind bytes Skipped = ⊥
IsVerdictOn kind bytes (Ends ending) = ⊥
IsVerdictOn kind bytes (FaultyMulti fault) = ⊥
IsVerdictOn kind bytes (Faulty error) = IsRefusalAs kind bytes error
IsVerdictOn kind bytes Alone = (file : IndexFile) × IsOpenedAs kind bytes file
IsVerdictOn kind bytes (Paired pairing) = (file : IndexFile) × IsOpenedAs kind bytes file

-- how bytes end: for the kind that is given or, if none is, for the kind whose digest they end with
abbrev pub IsEndingFor : Option Kind → List ℕ → Ending → Type 0
IsEndingFor None bytes ending = HasEndingOfEither Sha1 Sha256 bytes ending
IsEndingFor (Some kind) bytes ending = HasEnding kind bytes ending

-- a verdict is on some bytes, unless it says that the file has no digest; a multi-pack-index that has a fault ends with its digest
abbrev pub IsVerdictOnSome : Option Kind → Verdict → Type 0
IsVerdictOnSome kind Skipped = Unit {0}
IsVerdictOnSome kind (Ends ending) = (bytes : List ℕ) × (read : Option Kind) × IsEndingFor read bytes ending
IsVerdictOnSome kind (FaultyMulti fault) = (bytes : List ℕ) × (read : Option Kind) × (id : ObjectId) × IsEndingFor read bytes (Sealed id)
IsVerdictOnSome kind said = (bytes : List ℕ) × IsVerdictOn kind bytes said

-- the bytes are read as a multi-pack-index
abbrev pub IsMulti : List ℕ → Type 0
IsMulti bytes = (kind : Kind) × (layout : Layout) × (names : List ℕ) × IsReadAsMulti kind bytes layout names

-- why a multi-pack-index is wrong
abbrev pub why_of : Fault → List ℕ
why_of faults.Chunks = codes "its header, its table of chunks or a chunk is wrong"
why_of (faults.OtherKind kind) = codes "its ids are of the kind " ++ name_of kind
why_of faults.FanOut = codes "its fan-out table is wrong"
why_of faults.Order = codes "its ids are not in order"
why_of (faults.Lacks id name) = codes "it lacks " ++ (hex_of id ++ (codes " of " ++ string_bytes name))
why_of (faults.InNoPack id) = hex_of id ++ codes " is in none of its packs"

-- what is printed after the name of a file
abbrev pub IsLineEnd : Verdict → List ℕ → Type 0
IsLineEnd Skipped text = text ≡ codes ": SKIPPED: it has no digest" ++ 10 ∷ []
IsLineEnd (Ends ending) text = text ≡ verdict ending
IsLineEnd (FaultyMulti fault) text = text ≡ codes ": FAILED: " ++ why_of fault ++ 10 ∷ []
IsLineEnd (Faulty error) text = (why : List ℕ) × (text ≡ codes ": FAILED: " ++ why ++ 10 ∷ [])
IsLineEnd Alone text = text ≡ codes ": OK" ++ 10 ∷ []
IsLineEnd (Paired pairing) text = text ≡ pairing_verdict pairing

-- the line of a file was written
pub record HasWrittenVerdict (said : Verdict) (path : List ℕ) (old new : Option (List ℕ)) : Type 0 where
  pub end : List ℕ
  pub is_end : IsLineEnd said end
  pub written : Appends old new (file_line path end)

-- the line of a checked file was written, and this is whether the file passed
abbrev pub IsChecked : List ℕ → Bool → Option (List ℕ) → Option (List ℕ) → Type 0
IsChecked path is_right old new = (said : Verdict) × (IsTrue is_right ↔ IsRight said) × HasWrittenVerdict said path old new
