use Rattle.gix_hash.proofs.Std.{refl, inl, inr, err_from_is_err_and}
use Rattle.oidtool_commands.proofs.CommandLemmas.{refuses_kind}
use Rattle.oidtool_commands.proofs.command.read_one_word.Goals as goal

pub returns-in_err-read_kind-in-hash-clause-refused : goal.returns-in_err-read_kind-in-hash-clause-refused
returns-in_err-read_kind-in-hash-clause-refused c =
    let exit = err_from_is_err_and c.from_residual.result c.from_residual.ensures.1 in
    rw (exit.1, exit.2) (refuses_kind _ c.args.word.now _ (inl (rw c.in-hash.is refl)) c.in_err-read_kind-in-hash.ensures.refused)

pub returns-in_err-read_kind-in-seal-clause-refused : goal.returns-in_err-read_kind-in-seal-clause-refused
returns-in_err-read_kind-in-seal-clause-refused c =
    let failed = c.from_residual-in_err-read_kind-in-seal in
    let exit = err_from_is_err_and failed.result failed.ensures.1 in
    rw (exit.1, exit.2) (refuses_kind _ c.args.word.now _ (inr (inl (rw c.in-seal.is refl))) c.in_err-read_kind-in-seal.ensures.refused)
