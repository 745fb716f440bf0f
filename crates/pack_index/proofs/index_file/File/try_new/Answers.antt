use Rattle.gix_hash.proofs.Std.{false≢true}
use Rattle.pack_index.proofs.Refusals.{no_index}
use Rattle.pack_index.proofs.index_file.File.try_new.Goals as goal

pub returns-in-Err-clause-accepted : goal.returns-in-Err-clause-accepted
returns-in-Err-clause-accepted c = (λ no. absurd (false≢true no), λ index. absurd (no_index _ _ _ c.in-Err.ensures.err index))
