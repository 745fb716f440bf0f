use Rattle.gix_hash.proofs.Std.{arith, common_steps}
use Rattle.store_questions.proofs.LineLemmas.{lines-taken}
use Rattle.store_questions.proofs.line_reader.LineReader.find_chunk.Goals as goal

pub returns-clause-lines : goal.returns-clause-lines
returns-clause-lines g c = grind (arith, common_steps, lines-taken)
