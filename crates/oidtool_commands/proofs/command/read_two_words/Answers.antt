use Rattle.gix_hash.proofs.Std.{refl, inl, inr, err_from_is_err_and}
use Rattle.oidtool_commands.proofs.CommandLemmas.{refuses_kind}
use Rattle.oidtool_commands.proofs.command.read_two_words.Goals as goal

pub returns-in_err-read_kind-in-text-clause-refused : goal.returns-in_err-read_kind-in-text-clause-refused
returns-in_err-read_kind-in-text-clause-refused c =
    let exit = err_from_is_err_and c.from_residual.result c.from_residual.ensures.1 in
    rw (exit.1, exit.2) (refuses_kind _ c.args.kind.now _ (inr (inr (inl (c.args.prefix.now, rw c.in-text.is refl)))) c.in_err-read_kind-in-text.ensures.refused)
