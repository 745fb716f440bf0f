use Rattle.gix_hash.proofs.Std.{refl, sym}
use Rattle.packtool_commands.proofs.reopening.look_up_again.Goals as goal

pub returns-then-not-matches-clause-found : goal.returns-then-not-matches-clause-found
returns-then-not-matches-clause-found g c =
    record { shown = _; shows = sym (c.requires.same _ _ _ c.look_up-looked.ensures); left = _; met = c.look_up-looked.ensures; leaves = refl }

pub returns-clause-found : goal.returns-clause-found
returns-clause-found g c = record { shown = _; shows = sym (c.requires.same _ _ _ c.look_up.ensures); left = _; met = c.look_up.ensures; leaves = refl }
