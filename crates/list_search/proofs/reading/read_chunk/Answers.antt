use Rattle.gix_hash.proofs.Std.{◌≢◌, [], subst, err_from_is_err_and}
use Rattle.list_search.proofs.SkippedLines.{read_searches, refused_memory}
use Rattle.list_search.proofs.reading.read_chunk.Goals as goal

pub returns-clause-ok : goal.returns-clause-ok
returns-clause-ok g c =
    read_searches _ _ c.args.reader.now c.take_chunk.new.self c.drop_ids.new.self c.args.finder.now c.take.new.self c.args.chunk.now c.ids.result.now
    c.in_ok-take_chunk.ensures.ok c.requires.empty c.requires.count c.ids.ensures c.in_ok-take.ensures.known c.in_ok-take.ensures.count
    c.drop_ids.ensures.ids c.drop_ids.ensures.dropped c.drop_ids.ensures.line c.drop_ids.ensures.len

pub returns-in_err-take_chunk-clause-err : goal.returns-in_err-take_chunk-clause-err
returns-in_err-take_chunk-clause-err g c =
    let p = err_from_is_err_and c.from_residual.result c.from_residual.ensures.1 in
    rw (p.1, p.2) (λ text more s. c.in_err-take_chunk.ensures.err s.earlier text more s.dropped s.taken)

pub returns-in_err-take-clause-err : goal.returns-in_err-take-clause-err
returns-in_err-take-clause-err g c =
    let p = err_from_is_err_and c.from_residual-in_err-take.result c.from_residual-in_err-take.ensures.1 in
    let m = c.in_err-take.ensures.memory in
    rw (p.1, p.2) (refused_memory _ _ c.args.reader.now c.take_chunk.new.self c.args.finder.now c.args.chunk.now _ c.in_ok-take_chunk.ensures.ok m.0
    (subst (λ ids. ids ≢ []) c.ids.ensures m.1))
