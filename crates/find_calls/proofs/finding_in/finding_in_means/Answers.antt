use Rattle.list_search.specs.declared.search.Search.TheVariants.{In}
use Rattle.list_search.proofs.Results.{result_means}
use Rattle.find_calls.proofs.finding_in.finding_in_means.Goals as goal

pub returns : goal.returns
returns c answer = result_means (In c.args.kind) c.args.prefix.now c.args.list.now answer
