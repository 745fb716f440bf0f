use Rattle.gix_hash.proofs.Std.{sym, ap, ◌∙◌, arith, is_lt, false≢true}
use Rattle.id_lookup.proofs.Ordered.{sorted-in_order}
use Rattle.id_lookup.proofs.sorted.SortedIds.len.Goals as goal

pub returns-clause-in_order : goal.returns-clause-in_order
returns-clause-in_order g c =
    rw (← c.self.view_is) (λ i j d low high is. false≢true (sym (sorted-in_order _ c.self.invariant.0 i j d (omega arith) high) ∙ ap is_lt is))
