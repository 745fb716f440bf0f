-- What was read of an input, and what was printed of all of it.
use Rattle.gix_hash.proofs.Std.{ℕ, Option, Some, None, List, append-nil, IfSome, Consumes, IsAtEnd}

-- the bytes read to the end of a source are all its bytes
pub read_whole : (P : List ℕ → Type 0) (a b : Option (List ℕ)) (items : List ℕ) → Consumes a b items → IsAtEnd b → P items → IfSome a P
read_whole P None b items read end holds = tt
read_whole P (Some xs) None items read end holds = absurd read
read_whole P (Some xs) (Some ys) items read end holds = rw (read, end, append-nil items) holds
