use Rattle.gix_hash.proofs.Std.{arith, err_from_is_err_and}
use Rattle.list_search.proofs.StopLemmas.{step_gave, search_stops, search_finds}
use Rattle.list_search.proofs.search.search_from.Goals as goal

pub returns-in_err-ids-clause-stopped : goal.returns-in_err-ids-clause-stopped
returns-in_err-ids-clause-stopped g c =
    let p = err_from_is_err_and c.from_residual-in_err-ids.result c.from_residual-in_err-ids.ensures.1 in
    let reads = step_gave _ c.read_prefix.ensures.value c.in_ok-prefix.ensures.cases in
    rw (p.1, p.2) (search_stops _ _ _ reads c.new.result c.new.ensures.search c.new.ensures.prefix _ _ _ _ _ _ c.in_err-ids.ensures.stopped).0

pub returns-in_err-ids-clause-own : goal.returns-in_err-ids-clause-own
returns-in_err-ids-clause-own g c =
    let p = err_from_is_err_and c.from_residual-in_err-ids.result c.from_residual-in_err-ids.ensures.1 in
    let reads = step_gave _ c.read_prefix.ensures.value c.in_ok-prefix.ensures.cases in
    rw (p.1, p.2) (search_stops _ _ _ reads c.new.result c.new.ensures.search c.new.ensures.prefix _ _ _ (g.W.Sink.taken c.args.out.now) (g.W.Sink.taken c.args.out.now) _ c.in_err-ids.ensures.stopped).1

pub returns-clause-found : goal.returns-clause-found
returns-clause-found g c =
    let reads = step_gave _ c.read_prefix.ensures.value c.in_ok-prefix.ensures.cases in
    search_finds _ _ _ reads c.new.result c.new.ensures.search c.new.ensures.prefix _ _ _ _ _ c.in_ok-ids.ids.items _ c.in_ok-ids.ensures.found
    (rw (c.alphabet.ensures, c.deref.ensures.value) at c.in_ok-write_ids.ensures.written) (omega (arith, c.len.ensures))
