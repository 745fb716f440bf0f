use Rattle.pack_index.proofs.multi.chunks_of.Goals as goal

pub returns-in_err-names-clause-chunks : goal.returns-in_err-names-clause-chunks
returns-in_err-names-clause-chunks c = rw c.from_residual.ensures (λ chunks has. c.in_err-names.ensures _ _ has.names)

pub returns-in_err-counts-clause-chunks : goal.returns-in_err-counts-clause-chunks
returns-in_err-counts-clause-chunks c = rw c.from_residual-in_err-counts.ensures (λ chunks has. c.in_err-counts.ensures _ _ has.counts)

pub returns-in_err-ids-clause-chunks : goal.returns-in_err-ids-clause-chunks
returns-in_err-ids-clause-chunks c = rw c.from_residual-in_err-ids.ensures (λ chunks has. c.in_err-ids.ensures _ _ has.ids)
