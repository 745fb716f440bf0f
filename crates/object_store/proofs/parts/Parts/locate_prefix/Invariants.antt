use Rattle.gix_hash.proofs.Std.{◌≡◌, map, take, All}
use Rattle.object_store.specs.Several.{IsLocated}
use Rattle.object_store.proofs.parts.Parts.locate_prefix.Given as goal

abbrev pub invariant-loop-id : goal.invariant-loop-id
invariant-loop-id g l =
    (l.self ≡ l.fn.self) × (map (λ located. located.id) l.located.items ≡ take l.id-index l.id-items)
    × All (IsLocated (g.S.Store.view l.fn.self.now) (g.S.StorePaths.loose_paths l.fn.self.now)) l.located.items
