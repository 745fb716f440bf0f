use Rattle.gix_hash.proofs.Std.{arith, common_steps}
use Rattle.store_questions.proofs.LineLemmas.{held-fed, last-append, line-taken, none-after}
use Rattle.store_questions.proofs.line_reader.LineReader.end_line.Goals as goal

pub returns-then-self-gt0-clause-lines : goal.returns-then-self-gt0-clause-lines
returns-then-self-gt0-clause-lines g c = grind (arith, common_steps, line-taken, held-fed, none-after)

pub returns-then-self-gt0-clause-whole : goal.returns-then-self-gt0-clause-whole
returns-then-self-gt0-clause-whole g c = grind (arith, common_steps, last-append)
