-- The path of what is missing is text.
use denote.Text.{Utf8}
use denote.Shadow.{shadow}
use Rattle.repositories.proofs.look.first_above.Given as goal

abbrev pub invariant-loop-above : goal.invariant-loop-above
invariant-loop-above g l =
    (goal.iterator-loop-above g).can_next l.above-iterator × (goal.iterator-loop-above g).is_finite l.above-iterator × shadow (Utf8 l.missing)
