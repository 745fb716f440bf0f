-- What is lent: the bytes of an id, and a text in a buffer.
use Rattle.std.specs.Prelude.{ℕ, ⊤, ◌≡◌, List}
use Rattle.std.specs.Borrow.{Array, Fml, Lends, MutBor, follows_so, u8}
use mathlib.Core.Option.{none}
use Rattle.gix_hash.specs.contracts.object_id.ObjectId.{the_row}
use Rattle.gix_hash.specs.declared.object_id.ObjectId.{ObjectId}
use Rattle.gix_hash.specs.declared.object_id.ObjectId.TheVariants.{Sha1, Sha256}

-- the id of the same kind with other bytes
abbrev pub with_bytes : ObjectId → List ℕ → ObjectId
with_bytes (Sha1 old) bytes = Sha1 bytes
with_bytes (Sha256 old) bytes = Sha256 bytes

-- the lent bytes at the end of the loan are the digest afterwards
abbrev pub LendsDigest : MutBor ObjectId → MutBor (List ℕ) → Fml
LendsDigest id lent = Lends the_row (Array u8 0) id lent (with_bytes id.now)

-- the buffer holds these bytes once nothing borrows from it
abbrev pub IsLeftAs : MutBor (List ℕ) → List ℕ → Fml
IsLeftAs buffer bytes = follows_so (Array u8 0) (Array u8 0) buffer.ghost_name none (λ _ _. ⊤) (λ last. last ≡ bytes)
