use Rattle.gix_hash.proofs.Std.{[], ap, ◌∙◌, arith, sym, err_from_is_err_and}
use Rattle.list_search.specs.Lists.{ids_read}
use Rattle.list_search.proofs.ChunkLemmas.{list_taken, lines_of-unended, refuses_same}
use Rattle.list_search.proofs.list_reader.ListReader.finish.Goals as goal
use Rattle.list_search.proofs.list_reader.ListReader.finish.Goals.{then-self-gt0+in_ok-end_line, else-self-gt0}

pub returns-in_err-end_line-clause-err : goal.returns-in_err-end_line-clause-err
returns-in_err-end_line-clause-err g c =
    let p = err_from_is_err_and c.from_residual.result c.from_residual.ensures.1 in
    rw (p.1, p.2) (λ earlier text count h. refuses_same _ text _ (lines_of-unended _ _ _ text h c.if-self-gt0.true)
    (c.in_err-end_line.ensures.err earlier text [] count h))

pub returns-clause-ok : goal.returns-clause-ok
returns-clause-ok g c earlier text h =
    elim c.if-self-gt0.branch [
      | then-self-gt0+in_ok-end_line w ↦
          rw w.self-is (ap (ids_read 1) (sym (lines_of-unended _ _ _ text h w.if-self-gt0.true))
          ∙ list_taken _ _ _ _ (w.in_ok-end_line.ensures.ok.taken earlier text h) w.in_ok-end_line.ensures.begun)
      | else-self-gt0 w ↦ rw w.self-is (list_taken _ _ _ text h (omega arith))
    ]

pub returns-clause-short : goal.returns-clause-short
returns-clause-short g c =
    elim c.if-self-gt0.branch [
      | then-self-gt0+in_ok-end_line w ↦ rw w.self-is (omega (arith, w.in_ok-end_line.ensures.one))
      | else-self-gt0 w ↦ rw w.self-is (omega arith)
    ]
