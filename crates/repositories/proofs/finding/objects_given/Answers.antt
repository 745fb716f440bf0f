use Rattle.gix_hash.proofs.Std.{◌≡◌, ◌∙◌, ap, err_from_is_err_and, inl, option_map, string_bytes, subst, sym, unwrap_or}
use Rattle.repositories.specs.Discovery.{HasKindBeside}
use Rattle.repositories.proofs.finding.objects_given.Goals as goal

pub returns-in_err-kind-clause-err : goal.returns-in_err-kind-clause-err
returns-in_err-kind-clause-err g c =
    let given = err_from_is_err_and c.from_residual.result c.from_residual.ensures.1 in
    rw (given.1, given.2) (λ other at known. inl (λ path kind is has.
    let same : path ≡ c.deref.result.now = ap (λ found. unwrap_or found path) (is ∙ ap (option_map string_bytes) c.in-Some.is) ∙ sym c.deref.ensures in
    c.in_err-kind.ensures other at known kind (subst (λ path. HasKindBeside path kind at) same has)))
