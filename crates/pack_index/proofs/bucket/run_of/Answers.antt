use Rattle.gix_hash.proofs.Std.{ℕ, List, map, nat_eq, ap, ◌∙◌, starts_with}
use Rattle.id_lookup.specs.Words.{matches}
use Rattle.id_lookup.proofs.Filters.{filter_within}
use Rattle.id_lookup.proofs.Matched.{run_matches}
use Rattle.pack_index.proofs.bucket.run_of.Goals as goal

-- the ids of the run are those that match, so all of them do
pub returns-clause-all : goal.returns-clause-all
returns-clause-all g c =
    let digits = c.args.prefix.now.digits in
    let p : List ℕ → _ = λ id. starts_with nat_eq id digits in
    ap (matches digits) (run_matches g.I.Id.digits c.args.prefix.now c.args.list.now c.find_assuming_sorted_near-run.result
    (c.find_assuming_sorted_near-run.ensures.run (c.requires.sorted c.if-not-is_sorted.false)))
    ∙ filter_within p p (λ id passes. passes) (map g.I.Id.digits c.args.list.now)
