use Rattle.id_digits.proofs.Std.{sym, ◌∙◌, ap, is_eq, both_tied, unsigned_ties, texts_ties}
use Rattle.gix_hash.specs.Prefixes.{prefix_kind_number}
use Rattle.gix_hash.proofs.prefix.order.PrefixPartialEq.eq.Goals as goal

pub returns : goal.returns
returns c =
    let a = c.args.self.now in
    let b = c.args.other.now in
    c.is_eq.ensures ∙ ap is_eq c.cmp.ensures
    ∙ sym (both_tied _ _ _ _ (unsigned_ties (prefix_kind_number a) (prefix_kind_number b)) (texts_ties a.digits b.digits))
