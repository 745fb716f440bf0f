-- That the tables of an index fill bytes for one kind at most, and so why bytes are an index of no kind.
use Rattle.gix_hash.proofs.Std.{ℕ, List, inl, inr, arith}
use Rattle.id_lookup.specs.Words.{Sha1, Sha256}
use Rattle.pack_index.specs.Format.{HasTables, IsPackIndex, IsRefusal}
use Rattle.pack_index.specs.declared.error.Error.{Error}
use Rattle.gix_hash_c.specs.LookUps.{IsFaultByTables, IsLaidOut}

one_kind : (bytes : List ℕ) → HasTables Sha1 bytes → HasTables Sha256 bytes → ⊥
one_kind bytes short long = omega (arith, short.most, long.fits)

pub of_sha256 : (bytes : List ℕ) (error : Error) → IsLaidOut Sha256 bytes → IsRefusal Sha256 bytes error
    → (¬ IsPackIndex Sha1 bytes) × IsFaultByTables bytes error
of_sha256 bytes error laid_out (inl is) = absurd (one_kind bytes is.1.ids.tables laid_out.1)
of_sha256 bytes error laid_out (inr is) = (is.0, inl (laid_out, is.1))

pub of_sha1 : (bytes : List ℕ) (error : Error) → ¬ IsLaidOut Sha256 bytes → IsRefusal Sha1 bytes error
    → (¬ IsPackIndex Sha256 bytes) × IsFaultByTables bytes error
of_sha1 bytes error other (inl is) = absurd (other (is.1.ids.head, is.1.ids.tables))
of_sha1 bytes error other (inr is) = (is.0, inr (other, is.1))
