-- What the file of a reference says.
use Rattle.std.specs.Prelude.{◌≡◌, ◌≢◌, ◌++◌, ◌∷◌, ◌==◌, ◌&&◌, ◌≤◌, not, [], ℕ, Bool, IsTrue, List, codes, length, nat_eq, nat_lt}
use Rattle.std.specs.List.{list_all, list_any}
use Rattle.gix_hash.specs.Words.{AreIdDigits, id_digits, id_kind}
use Rattle.gix_hash.specs.declared.Kind.{Kind}
use Rattle.callers.specs.Printed.{line_then}
use Rattle.callers.specs.declared.references.Reference.{Reference}
use Rattle.callers.specs.declared.references.Reference.TheVariants.{Id, Symbolic}

-- whether a name may have the byte: no control character, no space, and none of ~ ^ : ? * [ \
abbrev pub is_reference_byte : ℕ → Bool
is_reference_byte byte = nat_lt 32 byte && not (byte == 127) && not (list_any (nat_eq byte) (codes "~^:?*[" ++ 92 ∷ []))

-- the bytes are a name: at least one, and only bytes that names may have
abbrev pub IsName : List ℕ → Type 0
IsName name = (1 ≤ length name) × IsTrue (list_all is_reference_byte name)

-- the line of a reference to another
abbrev pub symbolic_line : List ℕ → List ℕ
symbolic_line name = codes "ref: " ++ (name ++ 10 ∷ [])

-- what the file of a reference says
abbrev pub reference_text : Reference → List ℕ
reference_text (Id id) = line_then (id_digits id) []
reference_text (Symbolic name) = symbolic_line name.now

-- the text says the reference, whose id is of the kind, or whose name is one
abbrev pub IsReference : Kind → List ℕ → Reference → Type 0
IsReference kind text (Id id) = (id_kind id ≡ kind) × (text ≡ reference_text (Id id))
IsReference kind text (Symbolic name) = IsName name.now × (text ≡ reference_text (Symbolic name))

-- the text says no reference
pub record IsNoReference (kind : Kind) (text : List ℕ) : Type 0 where
  pub no_id : (digits : List ℕ) → AreIdDigits kind digits → text ≢ line_then digits []
  pub not_symbolic : (name : List ℕ) → IsName name → text ≢ symbolic_line name
