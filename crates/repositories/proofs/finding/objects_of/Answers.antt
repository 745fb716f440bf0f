use Rattle.gix_hash.proofs.Std.{err_from_is_err_and, inl, subst, sym}
use Rattle.repositories.specs.Discovery.{HasKind}
use Rattle.repositories.proofs.finding.objects_of.Goals as goal

pub returns-in_err-kind-clause-err : goal.returns-in_err-kind-clause-err
returns-in_err-kind-clause-err g c =
    let given = err_from_is_err_and c.from_residual.result c.from_residual.ensures.1 in
    rw (given.1, given.2) (λ other at known. inl (λ kind has. c.in_err-kind.ensures other at known kind (subst (λ directory. HasKind directory kind at) (sym c.deref.ensures) has)))
