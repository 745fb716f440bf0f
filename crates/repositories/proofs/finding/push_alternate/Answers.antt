use Rattle.gix_hash.proofs.Std.{◌∙◌, sym}
use Rattle.repositories.proofs.Visits.{text_is}
use Rattle.repositories.proofs.finding.push_alternate.Goals as goal

pub returns-clause-err : goal.returns-clause-err
returns-clause-err g c = λ other. sym (text_is _ _ c.in_ok-push_path.ensures.text) ∙ c.if-branch.false
