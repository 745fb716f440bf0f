use Rattle.id_digits.proofs.Std.{refl}
use Rattle.id_digits.specs.Digits.{digit_below, word}
use Rattle.gix_hash.proofs.laws.words_written_out.Goals as goal

pub returns-clause-seven : goal.returns-clause-seven
unfolding word digit_below
returns-clause-seven c = refl

pub returns-clause-over_a_word : goal.returns-clause-over_a_word
unfolding word digit_below
returns-clause-over_a_word c = refl

pub returns-clause-none : goal.returns-clause-none
unfolding word
returns-clause-none c = refl
