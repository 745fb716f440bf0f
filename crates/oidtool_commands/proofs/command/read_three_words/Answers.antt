use Rattle.gix_hash.proofs.Std.{refl, inr, err_from_is_err_and}
use Rattle.oidtool_commands.proofs.CommandLemmas.{refuses_kind, refuses_number}
use Rattle.oidtool_commands.proofs.command.read_three_words.Goals as goal

pub returns-in_err-read_kind-in-text-clause-refused : goal.returns-in_err-read_kind-in-text-clause-refused
returns-in_err-read_kind-in-text-clause-refused c =
    let exit = err_from_is_err_and c.from_residual.result c.from_residual.ensures.1 in
    rw (exit.1, exit.2) (refuses_kind _ c.args.kind.now _ (inr (inr (inr (c.args.count.now, c.args.path.now, rw c.in-text.is refl)))) c.in_err-read_kind-in-text.ensures.refused)

pub returns-in_err-read_count-in-text-clause-refused : goal.returns-in_err-read_count-in-text-clause-refused
returns-in_err-read_count-in-text-clause-refused c =
    let failed = c.from_residual-in_err-read_count-in-text in
    let exit = err_from_is_err_and failed.result failed.ensures.1 in
    rw (exit.1, exit.2, c.in-text.is)
    (refuses_number c.args.kind.now c.args.count.now c.args.path.now _ _ c.in_ok-read_kind-in-text.ensures.named c.in_err-read_count-in-text.ensures.refused)
