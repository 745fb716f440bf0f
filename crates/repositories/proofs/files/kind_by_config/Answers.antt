use Rattle.gix_hash.proofs.Std.{err_from_is_err_and}
use Rattle.repositories.proofs.OneKind.{has_none}
use Rattle.repositories.proofs.files.kind_by_config.Goals as goal

pub returns-in_err-kind : goal.returns-in_err-kind
returns-in_err-kind g c =
    let given = err_from_is_err_and c.from_residual.result c.from_residual.ensures.1 in
    rw (given.1, given.2) (λ other at known. has_none c.args.directory.now at (c.in_err-kind.ensures other at known))
