-- What the code's values are in the grammar.
use Rattle.std.specs.Prelude.{◌≡◌, ◌≤◌, ℕ, Result, Ok, Err, option_map, List, length, IfOk}
use Rattle.std.specs.Borrow.{Bor}
use Rattle.git_config.specs.Grammar as grammar
use Rattle.git_config.specs.declared.Variable.{Variable}
use Rattle.git_config.specs.declared.syntax.Piece.{Piece}
use Rattle.git_config.specs.declared.syntax.Piece.TheVariants.{End, Blank, Means}
use Rattle.git_config.specs.declared.syntax.Stop.{Stop}
use Rattle.git_config.specs.declared.syntax.Stop.TheVariants.{Memory, Wrong}

-- a variable of the code
abbrev pub said : Variable → grammar.Variable
said variable = record { name = variable.name.items; value = option_map (λ text. text.items) variable.value }

-- a byte of a value as the code has it
abbrev pub piece_of : Piece → grammar.Piece
piece_of End = grammar.Piece.End
piece_of Blank = grammar.Piece.Blank
piece_of (Means bytes in_quotes escaped) = grammar.Piece.Means bytes.now in_quotes escaped

-- what a function returned is what the grammar gives, unless memory ran out
abbrev pub Gives : {X Y : Type 0} → (X → Y) → Result X Stop → Result Y ℕ → Type 0
Gives view (Ok x) is = is ≡ Ok (view x)
Gives view (Err Memory) is = Unit {0}
Gives view (Err (Wrong left)) is = is ≡ Err left

-- what a function read from a text, and the rest, are what the grammar gives, and the rest is not longer than the text
abbrev pub GivesFrom : {X Y : Type 0} → List ℕ → (X → Y) → Result (X × Bor (List ℕ)) Stop → Result (Y × List ℕ) ℕ → Type 0
GivesFrom text view result is = Gives (λ read. (view read.0, read.1.now)) result is × IfOk result (λ read. length read.1.now ≤ length text)
