use Rattle.gix_hash.proofs.Std.{ap, arith, err_from_is_err_and}
use Rattle.id_lookup.specs.Words.{byte_len_of}
use Rattle.packtool_commands.proofs.pairing.last_digest.Goals as goal

pub returns-in_err-read_exact_at-clause-err : goal.returns-in_err-read_exact_at-clause-err
returns-in_err-read_exact_at-clause-err g c =
    let failed = err_from_is_err_and c.from_residual-in_err-read_exact_at.result c.from_residual-in_err-read_exact_at.ensures.1 in
    rw failed.1 (λ bytes is.
    c.in_err-read_exact_at.ensures.err bytes is
    (omega (arith, c.in_ok-len.ensures.len bytes is, c.in-Some.ensures, c.as_mut_slice.ensures.len, c.len_in_bytes.ensures, ap byte_len_of c.null-id.ensures.kind)))
