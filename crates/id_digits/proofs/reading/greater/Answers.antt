use Rattle.id_digits.proofs.Std.{sym, ◌∙◌}
use Rattle.id_digits.proofs.LaneValues.{greater_digits}
use Rattle.id_digits.proofs.reading.greater.Goals as goal

pub returns : goal.returns
returns c = greater_digits c.args.one c.args.other (c.fits-one.0 ∙ sym c.fits-other.0)
