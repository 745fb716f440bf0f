-- Tables that are known since the bytes are.
use Rattle.gix_hash.proofs.Std.{Option, None, Some, List, ℕ, none-some, option_map, refl, same_Some, subst}
use Rattle.std.specs.Option.{ForSome}
use Rattle.id_lookup.specs.Words.{Kind}
use Rattle.pack_index.specs.Lazy.{Tables, tables_of}
use Rattle.pack_index.specs.declared.layout.Layout.{Layout}

pub by_bytes : (kind : Kind) (layout : Layout) (content : Option (List ℕ)) (P : Tables → Type 0) → ForSome content (λ bytes. P (tables_of kind layout bytes))
    → ForSome (option_map (tables_of kind layout) content) P
by_bytes kind layout None P each tables is = absurd (none-some tables is)
by_bytes kind layout (Some bytes) P each tables is = subst P (same_Some (tables_of kind layout bytes) tables is) (each bytes refl)
