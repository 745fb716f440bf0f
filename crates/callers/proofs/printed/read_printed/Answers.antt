use Rattle.gix_hash.proofs.Std.{arith}
use Rattle.callers.proofs.printed.read_printed.Goals as goal

pub returns-in_default : goal.returns-in_default
returns-in_default c digits are same = grind (arith, same, c.printed.ensures.reads c.args.kind digits are)

pub returns-else-eq : goal.returns-else-eq
returns-else-eq c digits are same = grind (arith, same, c.printed.ensures.reads c.args.kind digits are)
