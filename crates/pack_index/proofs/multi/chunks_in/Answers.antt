use Rattle.gix_hash.proofs.Std.{◌≡◌, ◌⊎◌, ◌≤◌, inl, inr, length, subst, sym, arith, rules, cases_lt, err_from_is_err_and}
use Rattle.pack_index.specs.Format.{digest_at}
use Rattle.pack_index.specs.Multi.{HasChunks}
use Rattle.pack_index.proofs.ChunkTables.{chunks_in_all, chunks_in_front, follows}
use Rattle.pack_index.proofs.multi.chunks_in.Goals as goal

pub returns-in_err-read_exact_at-clause-err : goal.returns-in_err-read_exact_at-clause-err
returns-in_err-read_exact_at-clause-err g c =
    let failed = err_from_is_err_and c.from_residual-in_err-read_exact_at.result c.from_residual-in_err-read_exact_at.ensures.1 in
    rw (failed.1) (λ bytes is. c.in_err-read_exact_at.ensures.err bytes is (first_of (search rules, omega (arith, c.in_ok-len.ensures.len bytes is, c.min.ensures))))

pub returns-clause-chunks : goal.returns-clause-chunks
returns-clause-chunks g c = λ bytes is.
    let kind = c.args.kind in
    let front = c.read_exact_at.new.buf in
    let read = c.in_ok-read_exact_at.ensures.bytes bytes is in
    let len = c.in_ok-len.ensures.len bytes is in
    let limit : c.saturating_sub-limit.result ≡ digest_at kind bytes = omega (arith, len, c.saturating_sub-limit.ensures, c.len_in_bytes.ensures) in
    let size : length front ≡ c.min.result = first_of (search rules, omega arith) in
    let enough : (length front ≡ length bytes) ⊎ (3084 ≤ length front) = elim (cases_lt c.in_ok-len.len 3084) [
      | inl less ↦ inl (omega (arith, len, less, c.min.ensures, size))
      | inr many ↦ inr (omega (arith, len, many, c.min.ensures, size))
    ] in
    follows _ _ _ _ c.chunks_of.result
    (λ none chunks has. none chunks (chunks_in_front bytes front read kind _ chunks c.chunks_of.ensures.small enough (subst (λ n. HasChunks kind bytes n chunks) (sym limit) has)))
    (λ chunks has. subst (λ n. HasChunks kind bytes n chunks) limit (chunks_in_all bytes front read kind _ chunks has)) c.chunks_of.ensures.chunks
