use Rattle.gix_hash.proofs.Std.{◌≡◌, ◌++◌, append-nil, suc, drop, drop-cons, subst, sym, ◌∙◌, arith, err_from_is_err_and}
use Rattle.list_search.specs.Lists.{IsListRefusal}
use Rattle.list_search.proofs.ChunkLemmas.{takes_more, range_one, range_none}
use Rattle.list_search.proofs.list_reader.ListReader.take_next.Goals as goal

pub returns-clause-ok : goal.returns-clause-ok
returns-clause-ok g c =
    let same : c.take_lines-next.result ≡ c.args.at = omega (arith, c.take_lines-next.ensures.onward, c.if-next-at.false) in
    takes_more _ _ _ _ _ _ (rw (same, range_none) at c.take_lines-next.ensures.ok) c.in_ok-take_byte.ensures.ok (sym (range_one c.args.chunk.now c.args.at c.requires.in_chunk))

pub returns-in_err-take_byte-clause-err : goal.returns-in_err-take_byte-clause-err
returns-in_err-take_byte-clause-err g c =
    let p = err_from_is_err_and c.from_residual.result c.from_residual.ensures.1 in
    let at = c.args.at in
    let chunk = c.args.chunk.now in
    let lines = c.take_lines-next.ensures in
    let same : c.take_lines-next.result ≡ at = omega (arith, lines.onward, c.if-next-at.false) in
    rw (p.1, p.2) (λ earlier text more count h. subst (λ l. IsListRefusal (text ++ (l ++ more)) c.in_err-take_byte.field-0.0) (sym (drop-cons chunk at 0 c.requires.in_chunk))
    (c.in_err-take_byte.ensures.err earlier text (drop (suc at) chunk ++ more) (count ∙ sym lines.ok.dropped) (rw (same, range_none, append-nil) at (lines.ok.taken earlier text h))))
