use Rattle.gix_hash.proofs.Std.{◌∷◌, ◌∙◌, sym}
use Rattle.streams.specs.Streams.{lines_of}
use Rattle.streams.proofs.LineLemmas.{lines_step}
use Rattle.packtool_commands.proofs.prefixes.first_line.Goals as goal

pub returns-clause-lines : goal.returns-clause-lines
returns-clause-lines c = lines_step c.args.text.now c.requires ∙ (λ i. sym c.split_line.ensures.line i ∷ lines_of (sym c.split_line.ensures.rest i))
