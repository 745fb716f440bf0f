use Rattle.id_digits.proofs.Std.{◌≡◌, inl, refl, err_from_is_err_and}
use Rattle.gix_hash.specs.declared.io.error.Error.TheVariants as errors
use Rattle.gix_hash.proofs.Made.{err-made}
use Rattle.gix_hash.proofs.Reaching.{Reaches-none}
use Rattle.gix_hash.proofs.io.file.bytes_of_file.Goals as goal

pub returns-in_err-file-clause-err : goal.returns-in_err-file-clause-err
returns-in_err-file-clause-err g c =
    let given = err_from_is_err_and c.from_residual.result c.from_residual.ensures.1 in
    let cause = err-made _ _ _ _ c.map_err.ensures.cases c.in_err-file.was in
    let is_io : c.in_err-file.field-0.0 ≡ errors.Io cause.0 = cause.1 in
    rw (given.1, given.2, is_io) (inl (cause.0, refl, Reaches-none _ _, Reaches-none _ _))
