use Rattle.repositories.proofs.finding.+has_fan_out.Given as goal

abbrev pub decreases-has_fan_out : goal.decreases-has_fan_out
decreases-has_fan_out g l = l.byte
