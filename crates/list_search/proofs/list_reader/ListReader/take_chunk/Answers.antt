use Rattle.gix_hash.proofs.Std.{◌++◌, take, drop, subst, sym, ap, ◌∙◌, arith, append_assoc, take-append-drop, err_from_is_err_and}
use Rattle.list_search.specs.Lists.{IsListRefusal}
use Rattle.list_search.proofs.ChunkLemmas.{takes_more, take_range}
use Rattle.list_search.proofs.list_reader.ListReader.take_chunk.Goals as goal

pub loop-at-preserved : goal.loop-at-preserved
loop-at-preserved g c =
    let next = c.in_ok-at.ensures.onward in
    record { ok = takes_more _ _ _ _ _ _ c.loop-at.invariant.ok c.in_ok-at.ensures.ok (take_range c.args.chunk.now c.loop-at.at _ (omega (arith, next.0))); in_chunk = next.1 }

pub returns-in_err-at-clause-err : goal.returns-in_err-at-clause-err
returns-in_err-at-clause-err g c =
    let p = err_from_is_err_and c.from_residual.result c.from_residual.ensures.1 in
    let i = c.loop-at.invariant in
    let at = c.loop-at.at in
    let chunk = c.args.chunk.now in
    rw (p.1, p.2) (λ earlier text more count h. subst (λ t. IsListRefusal t c.in_err-at.field-0.0)
    (append_assoc text (take at chunk) (drop at chunk ++ more)
    ∙ ap (λ l. text ++ l) (sym (append_assoc (take at chunk) (drop at chunk) more) ∙ ap (λ l. l ++ more) (take-append-drop at chunk)))
    (c.in_err-at.ensures.err earlier (text ++ take at chunk) more (count ∙ sym i.ok.dropped) (i.ok.taken earlier text h)))
