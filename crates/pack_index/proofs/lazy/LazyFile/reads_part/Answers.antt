use Rattle.gix_hash.proofs.Std.{ℕ, subst, false, get_or, IsTrue}
use Rattle.pack_index.proofs.Known.{by_bytes}
use Rattle.pack_index.proofs.lazy.LazyFile.reads_part.Goals as goal

pub returns-then-run-few : goal.returns-then-run-few
returns-then-run-few g c = λ is.
    rw (← c.self.view_is) (by_bytes c.self.inside.kind c.self.inside.layout _ _ (λ bytes known.
    (c.self.invariant.2 bytes known).1 c.args.byte c.ranges.byte.fits (subst (λ (n : ℕ). IsTrue (get_or c.self.inside.ordered n false)) c.from.ensures is)))
