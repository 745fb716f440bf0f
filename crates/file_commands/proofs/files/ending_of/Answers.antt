use Rattle.file_commands.proofs.files.ending_of.Goals as goal

pub returns-in-Ok : goal.returns-in-Ok
returns-in-Ok g c = let is = c.in-Ok.ensures in (is.0, is.2)
