use Rattle.gix_hash.proofs.KeptDigits.{words_order-after}
use Rattle.gix_hash.proofs.prefix.order.PrefixOrd.cmp.Goals as goal

pub returns : goal.returns
returns c =
    rw (← c.self.view_is, ← c.other.view_is, ← words_order-after _ c.self.inside c.other.inside c.self.invariant c.other.invariant)
    (rw (c.then.ensures, c.cmp.ensures, c.cmp-kind.ensures, c.kind.ensures.value, c.kind-2.ensures.value, c.cmp-digits.ensures) at c.then-2.ensures)
