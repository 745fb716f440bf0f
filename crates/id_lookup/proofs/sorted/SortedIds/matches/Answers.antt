use Rattle.gix_hash.proofs.Std.{ap, ◌∙◌}
use Rattle.id_lookup.specs.Runs.{matches}
use Rattle.id_lookup.proofs.Matched.{run_matches}
use Rattle.id_lookup.proofs.sorted.SortedIds.matches.Goals as goal

pub returns : goal.returns
returns g c =
    let ids = c.members-ids.result.now in
    run_matches g.I.Id.digits c.args.prefix.now ids c.find-run.result (rw c.members-ids.ensures.value c.find-run.ensures)
    ∙ ap (matches c.args.prefix.now.digits) c.members-ids.ensures.value
