-- A vector of which an item is replaced by one that is equal.
use Rattle.gix_hash.proofs.Std.{◌≡◌, ℕ, ◌≤◌, ◌∙◌, length, get_or, ap, slice_set}
use Rattle.std.specs.Prelude.{Vec}
use Rattle.std.specs.Vec.{with_item}
use Rattle.std.proofs.Props.{props}
use Rattle.std.proofs.lemmas.List.{set-get_or}
use mathlib.Core.HLevel.{is_prop→PathP}

pub with_item_same : {X Z : Type 0} (v : Vec X Z) (at : ℕ) (x : X) → x ≡ get_or v.items at x → with_item v at x ≡ v
with_item_same v at x is =
    let items : slice_set v.items at x ≡ v.items = ap (slice_set v.items at) is ∙ set-get_or v.items at x in
    λ i. record {
      ptr = v.ptr;
      len = v.len;
      cap = v.cap;
      alloc = v.alloc;
      items = items i;
      ok = is_prop→PathP (λ j. (v.len ≡ length (items j)) × (v.len ≤ v.cap)) (λ j. hlevel props) (with_item v at x).ok v.ok i;
      small = v.small;
    }
