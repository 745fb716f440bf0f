use Rattle.gix_hash.proofs.Std.{arith, common_steps}
use Rattle.store_questions.proofs.LineLemmas.{held-read, held-same, none-kept, read-kept}
use Rattle.store_questions.proofs.line_reader.LineReader.read.Goals as goal

pub returns-in-Ok-clause-lines : goal.returns-in-Ok-clause-lines
returns-in-Ok-clause-lines g c = grind (arith, common_steps, read-kept, held-read)

pub returns-in-Err-clause-lines : goal.returns-in-Err-clause-lines
returns-in-Err-clause-lines g c = grind (arith, common_steps, none-kept, held-same)
