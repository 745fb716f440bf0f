use Rattle.gix_hash.proofs.Std.{strip_prefix_is, Decides-eqb}
use Rattle.callers.proofs.printed.after_key.Goals as goal

pub returns : goal.returns
returns c = strip_prefix_is Decides-eqb _ _ _ c.strip_prefix.ensures.cases
