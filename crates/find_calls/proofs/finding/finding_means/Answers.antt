use Rattle.list_search.specs.declared.search.Search.TheVariants.{Sorted}
use Rattle.list_search.proofs.Results.{result_means}
use Rattle.find_calls.proofs.finding.finding_means.Goals as goal

pub returns : goal.returns
returns c answer = result_means (Sorted c.args.alphabet) c.args.prefix.now c.args.list.now answer
