-- What calls do to a hasher that was fed a message.
use Rattle.gix_hash.proofs.Std.{◌≡◌, ◌++◌, ℕ, List, Some, ap}
use Rattle.id_lookup.specs.Words.{Kind, Sha1, Sha256}
use Rattle.gix_hash_c.specs.Face.{kind_of_number}
use Rattle.gix_hash_c.specs.Hashers.{HoldsMessage, UpdateAnswer}
use Rattle.gix_hash_c.specs.declared.hashers.Hasher.{Hasher}

of_kind : (kind : Kind) (message : List ℕ) (hasher : Hasher) → HoldsMessage kind hasher message → kind_of_number hasher.kind ≡ Some kind
of_kind Sha1 message hasher fed = ap kind_of_number fed.kind_is
of_kind Sha256 message hasher fed = ap kind_of_number fed.kind_is

pub fed_more : (kind : Kind) (message bytes : List ℕ) (code : ℕ) (old new : Hasher) → HoldsMessage kind old message
    → UpdateAnswer (kind_of_number old.kind) bytes code old new → HoldsMessage kind new (message ++ bytes)
fed_more kind message bytes code old new fed answer = (rw (of_kind kind message old fed) at answer).1 message fed
