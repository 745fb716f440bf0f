use Rattle.gix_hash.proofs.Std.{◌≡◌, ◌≤◌, ℕ, List, Some}
use Rattle.pack_index.specs.Lazy.{AreWithin, ids_of}
use Rattle.pack_index.proofs.search.narrowed.Given as goal

abbrev pub invariant-loop-turn : goal.invariant-loop-turn
invariant-loop-turn g l = record {
  from : l.fn.run.start ≤ l.part.start;
  in_order : l.part.start ≤ l.part.end;
  to : l.part.end ≤ l.fn.run.end;
  all : (bytes : List ℕ) → g.S.ReadAt.content l.source ≡ Some bytes → AreWithin (ids_of l.ids bytes) l.prefix.digits l.fn.run.start l.fn.run.end l.part.start l.part.end;
}
