use Rattle.gix_hash.proofs.Std.{inr}
use Rattle.repositories.proofs.config.kind_in_config.Goals as goal

pub returns-in-Ok : goal.returns-in-Ok
returns-in-Ok c = inr (c.in-Ok.config.variables.items, c.in-Ok.config.bad_line, c.in-Ok.ensures, c.kind_or_fault.ensures)
