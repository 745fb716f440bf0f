use Rattle.repositories.proofs.LineEnds.{trimmed}
use Rattle.repositories.proofs.repository.without_line_ends.Goals as goal

pub returns : goal.returns
returns c = trimmed c.args.line.now c.trim_end_matches.result.now c.trim_end_matches.ensures.matches
