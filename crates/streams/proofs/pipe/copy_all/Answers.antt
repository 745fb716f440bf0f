use Rattle.gix_hash.proofs.Std.{take, err_from_is_err_and}
use Rattle.streams.proofs.WritingLemmas.{AppendsBeginning-after, AppendsBeginning-more}
use Rattle.streams.proofs.pipe.copy_all.Goals as goal

pub returns-in_err-write_all-clause-stopped : goal.returns-in_err-write_all-clause-stopped
returns-in_err-write_all-clause-stopped g c =
    let failed = c.from_residual-in_err-write_all in
    let exit = err_from_is_err_and failed.result failed.ensures.1 in
    let before = c.chunks.invariant in
    let chunk = take c.in_ok-len.len c.next_chunk.new.buf in
    let given = c.in_ok-len.ensures.given _ before.0 before.1.given in
    rw (exit.1, exit.2)
    (_, given.gives, AppendsBeginning-more _ _ _ _ (AppendsBeginning-after _ _ _ before.0 chunk before.1.taken c.in_err-write_all.ensures.part))
