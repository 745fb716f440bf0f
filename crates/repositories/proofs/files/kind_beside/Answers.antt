use Rattle.gix_hash.proofs.Std.{◌∙◌, None, err_from_is_err_and, subst}
use Rattle.repositories.specs.Discovery.{ConfigSays}
use Rattle.repositories.proofs.OneKind.{above_none, beside_none}
use Rattle.repositories.proofs.files.kind_beside.Goals as goal

pub returns-in_err-kind : goal.returns-in_err-kind
returns-in_err-kind g c =
    let given = err_from_is_err_and c.from_residual-in_err-kind.result c.from_residual-in_err-kind.ensures.1 in
    rw (given.1, given.2) (λ other at known. beside_none c.args.objects.now c.deref.result.now at (c.deref.ensures ∙ c.in_ok-above.ensures) (c.in_err-kind.ensures other at known))

pub returns-in_err-kind_by_config-in-None : goal.returns-in_err-kind_by_config-in-None
returns-in_err-kind_by_config-in-None g c =
    let given = err_from_is_err_and c.from_residual-in_err-kind_by_config-in-None.result c.from_residual-in_err-kind_by_config-in-None.ensures.1 in
    rw (given.1, given.2) (λ other at known.
    let missing : ConfigSays c.deref.result.now None at = subst (λ kind. ConfigSays c.deref.result.now kind at) c.in-None.is (c.in_ok-kind.ensures at known) in
    above_none c.args.objects.now c.deref.result.now c.parent_or_self.result.now at (c.deref.ensures ∙ c.in_ok-above.ensures) c.parent_or_self.ensures missing (c.in_err-kind_by_config-in-None.ensures other at known))
