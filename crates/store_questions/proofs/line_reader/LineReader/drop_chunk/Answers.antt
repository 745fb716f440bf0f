use Rattle.gix_hash.proofs.Std.{arith, common_steps}
use Rattle.store_questions.proofs.LineLemmas.{moved-front}
use Rattle.store_questions.proofs.line_reader.LineReader.drop_chunk.Goals as goal

pub returns-clause-lines : goal.returns-clause-lines
returns-clause-lines g c = grind (arith, common_steps, moved-front)
