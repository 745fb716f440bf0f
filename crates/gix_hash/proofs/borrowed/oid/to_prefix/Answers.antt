use Rattle.id_digits.proofs.Std.{ap, ◌∙◌}
use Rattle.gix_hash.proofs.Packing.{digits_of-range}
use Rattle.gix_hash.proofs.borrowed.oid.to_prefix.Goals as goal

pub returns-clause-digits : goal.returns-clause-digits
returns-clause-digits c = ap (λ p. p.digits) c.packed.ensures ∙ digits_of-range c.args.range.start c.args.range.end c.args.self.now.bytes.now
