-- How names are printed.
use Rattle.gix_hash.proofs.Std.{◌≡◌, ◌≢◌, ℕ, Bool, true, false, List, [], ◌∷◌, ◌++◌, refl, ap, ◌∙◌, arith, ◌==◌, ◌||◌, if◌then◌else◌, All, list_any, eqb-false, or_parts, All-append, All-cons, All-nil}
use Rattle.packtool_commands.specs.Files.{escape_mark, escape_of, escaped, file_line, is_special}

-- a byte that is not escaped is printed as it is
escape_of-plain : (byte : ℕ) → is_special byte ≡ false → escape_of byte ≡ byte ∷ []
unfolding escape_of
escape_of-plain byte plain =
    let first = or_parts (byte == 92) (byte == 10 || byte == 13) plain in
    let rest = or_parts (byte == 10) (byte == 13) first.1 in
    rw (first.0, rest.0, rest.1) refl

-- a name with no byte that is escaped is printed as it is
pub escaped-plain : (name : List ℕ) → list_any is_special name ≡ false → escaped name ≡ name
escaped-plain [] plain = refl
escaped-plain (x ∷ xs) plain =
    let both = or_parts (is_special x) (list_any is_special xs) plain in
    ap (λ (first : List ℕ). first ++ escaped xs) (escape_of-plain x both.0) ∙ ap (λ (rest : List ℕ). x ∷ rest) (escaped-plain xs both.1)

-- and its line has no mark
pub file_line-plain : (name text : List ℕ) → list_any is_special name ≡ false → file_line name text ≡ name ++ text
file_line-plain name text plain =
    rw plain (ap (λ (shown : List ℕ). shown ++ text) (escaped-plain name plain))

-- no byte is a line feed
abbrev NotFeed : ℕ → Type 0
NotFeed byte = byte ≢ 10

abbrev IsOneLine : List ℕ → Type 0
IsOneLine bytes = All NotFeed bytes

-- of one byte, and of two
one : (a : ℕ) → a ≢ 10 → IsOneLine (a ∷ [])
one a other = All-cons NotFeed a [] other (All-nil NotFeed)

two : (a b : ℕ) → a ≢ 10 → b ≢ 10 → IsOneLine (a ∷ b ∷ [])
two a b first second = All-cons NotFeed a (b ∷ []) first (one b second)

-- of three tests that choose, the second says which byte is a line feed
one_line-tests : (a b c : Bool) (plain : List ℕ) → (b ≡ false → IsOneLine plain)
    → IsOneLine (if a then 92 ∷ 92 ∷ [] else if b then 92 ∷ 110 ∷ [] else if c then 92 ∷ 114 ∷ [] else plain)
one_line-tests true b c plain other = two 92 92 (omega arith) (omega arith)
one_line-tests false true c plain other = two 92 110 (omega arith) (omega arith)
one_line-tests false false true plain other = two 92 114 (omega arith) (omega arith)
one_line-tests false false false plain other = other refl

-- what is printed for a byte has no line feed
escape_of-one_line : (byte : ℕ) → IsOneLine (escape_of byte)
unfolding escape_of
escape_of-one_line byte = one_line-tests (byte == 92) (byte == 10) (byte == 13) (byte ∷ []) (λ other. one byte (eqb-false byte 10 other))

escaped-one_line : (name : List ℕ) → IsOneLine (escaped name)
escaped-one_line [] = All-nil NotFeed
escaped-one_line (x ∷ xs) = All-append NotFeed (escape_of x) (escaped xs) (escape_of-one_line x) (escaped-one_line xs)

mark-one_line : (special : Bool) → IsOneLine (if special then 92 ∷ [] else [])
mark-one_line true = one 92 (omega arith)
mark-one_line false = All-nil NotFeed

-- and what is printed for a name has none
pub file_line-one_line : (name : List ℕ) → IsOneLine (escape_mark name ++ escaped name)
file_line-one_line name =
    All-append NotFeed (escape_mark name) (escaped name) (mark-one_line (list_any is_special name)) (escaped-one_line name)
