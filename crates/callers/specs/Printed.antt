-- Ids in texts, as Git prints them: in lowercase hex digits.
use Rattle.std.specs.Prelude.{◌≡◌, ◌≢◌, ◌++◌, ◌∷◌, ℕ, List}
use Rattle.gix_hash.specs.Words.{AreIdDigits, hex_letter, id_digits, id_kind, spelling}
use Rattle.gix_hash.specs.declared.Kind.{Kind}
use Rattle.gix_hash.specs.declared.ObjectId.{ObjectId}

-- the text is an id of the kind
abbrev pub IsPrinted : Kind → List ℕ → ObjectId → Type 0
IsPrinted kind text id = (id_kind id ≡ kind) × (text ≡ spelling hex_letter (id_digits id)) × AreIdDigits kind (id_digits id)

-- the text is no id of the kind
abbrev pub IsNotPrinted : Kind → List ℕ → Type 0
IsNotPrinted kind text = (digits : List ℕ) → AreIdDigits kind digits → text ≢ spelling hex_letter digits

-- a line of digits, and the rest after it
abbrev pub line_then : List ℕ → List ℕ → List ℕ
line_then digits rest = spelling hex_letter digits ++ 10 ∷ rest

-- the text does not begin with a line of an id of the kind
abbrev pub HasNoLine : Kind → List ℕ → Type 0
HasNoLine kind text = (digits rest : List ℕ) → AreIdDigits kind digits → text ≢ line_then digits rest

-- the text begins with a line of that id of the kind, and the rest after the line is determined
pub record HasLine (kind : Kind) (text : List ℕ) (id : ObjectId) (rest : List ℕ) : Type 0 where
  pub same_kind : id_kind id ≡ kind
  pub line : text ≡ line_then (id_digits id) rest
  pub only : (digits others : List ℕ) → AreIdDigits kind digits → text ≡ line_then digits others → others ≡ rest
