use Rattle.packtool_commands.proofs.AnswerLemmas.{no_answer_of_first, text_of_first}
use Rattle.packtool_commands.proofs.laws.two_are_enough.Goals as goal

pub returns-clause-text : goal.returns-clause-text
returns-clause-text g c = text_of_first

pub returns-clause-no_answer : goal.returns-clause-no_answer
returns-clause-no_answer g c = no_answer_of_first
