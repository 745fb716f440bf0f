use Rattle.gix_hash.proofs.Std.{IfOk, ◌≡◌, string_bytes, subst, sym}
use Rattle.file_commands.specs.Verdicts.{why_of}
use Rattle.file_commands.proofs.multi.why_of.Goals as goal

pub returns-in-Lacks : goal.returns-in-Lacks
returns-in-Lacks c = subst (λ fault. IfOk c.format-in-Lacks.result (λ why. string_bytes why ≡ why_of fault)) (sym c.in-Lacks.is) c.format-in-Lacks.ensures.ok

pub returns-in-InNoPack : goal.returns-in-InNoPack
returns-in-InNoPack c = subst (λ fault. IfOk c.format-in-InNoPack.result (λ why. string_bytes why ≡ why_of fault)) (sym c.in-InNoPack.is) c.format-in-InNoPack.ensures.ok
