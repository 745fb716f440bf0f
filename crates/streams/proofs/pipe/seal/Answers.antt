use Rattle.gix_hash.proofs.Std.{ap, ◌∙◌, err_from_is_err_and}
use Rattle.gix_hash.specs.Words.{id_bytes}
use Rattle.streams.proofs.WritingLemmas.{AppendsBeginning-after}
use Rattle.streams.proofs.pipe.seal.Goals as goal

pub returns-in_err-write_all-clause-stopped : goal.returns-in_err-write_all-clause-stopped
returns-in_err-write_all-clause-stopped g c =
    let failed = c.from_residual-in_err-write_all in
    let exit = err_from_is_err_and failed.result failed.ensures.1 in
    let copied = c.in_ok-id.ensures.copied in
    let digest_bytes = c.as_slice.ensures.value ∙ ap id_bytes copied.3 in
    rw (exit.1, exit.2) (
      copied.0,
      record { gives = copied.1.gives; short = copied.1.short },
      rw (← digest_bytes) (AppendsBeginning-after _ _ _ copied.0 c.as_slice.result.now copied.2 c.in_err-write_all.ensures.part),
    )
