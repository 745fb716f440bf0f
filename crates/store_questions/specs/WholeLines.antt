-- What contracts say of lines.
use Rattle.std.specs.Prelude.{ℕ, ◌≡◌, ◌++◌, List, [], ◌∷◌, cond, count_by}
pub use Rattle.streams.specs.Streams.{is_line_feed}

-- no byte is a line feed
abbrev pub HasNoLineFeed : List ℕ → Type 0
HasNoLineFeed bytes = count_by is_line_feed bytes ≡ 0

-- the last byte, or `before` if there is none
abbrev pub last_after : ℕ → List ℕ → ℕ
last_after before [] = before
last_after before (byte ∷ bytes) = last_after byte bytes

-- bytes are whole lines: none, or the last is a line feed
abbrev pub AreWhole : List ℕ → Type 0
AreWhole bytes = last_after 10 bytes ≡ 10

-- bytes with the line feed that their last line may lack
abbrev pub made_whole : List ℕ → List ℕ
made_whole bytes = cond (is_line_feed (last_after 10 bytes)) bytes (bytes ++ (10 ∷ []))
