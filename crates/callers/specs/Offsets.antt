-- Which object of a pack a typed text names.
use Rattle.std.specs.Prelude.{◌≡◌, ◌+◌, ℕ, List, Ok}
use Rattle.gix_hash.specs.Words.{KindDigits, hex_letter, prefix_read_in}
use Rattle.gix_hash.specs.declared.Kind.{Kind}
use Rattle.id_lookup.specs.Words.{IsRun}
use Rattle.pack_index.specs.Format.{IsPackIndex, ids_in}

-- the text reads as a prefix in the kind, the bytes are a pack index of the kind, and only its name at the position begins with the prefix
pub record IsOnlyMatch (kind : Kind) (bytes typed : List ℕ) (at : ℕ) : Type 0 where
  pub prefix : KindDigits
  pub reads : prefix_read_in kind hex_letter typed ≡ Ok prefix
  pub index : IsPackIndex kind bytes
  pub run : IsRun prefix (ids_in kind bytes) (record { start = at; end = at + 1 })
