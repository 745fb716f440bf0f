use Rattle.gix_hash.proofs.Std.{err_from_is_err_and, inr}
use Rattle.repositories.proofs.finding.ObjectDirectory.at.Goals as goal

pub returns-in_err-kind-clause-err : goal.returns-in_err-kind-clause-err
returns-in_err-kind-clause-err g c =
    let given = err_from_is_err_and c.from_residual-in_err-kind.result c.from_residual-in_err-kind.ensures.1 in
    rw (given.1, given.2) (λ other at known. inr (c.in_err-kind.ensures other at known))
