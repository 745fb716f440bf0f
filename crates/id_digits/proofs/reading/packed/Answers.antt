use Rattle.id_digits.specs.Letters.{packed}
use Rattle.id_digits.proofs.LanePacking.{packed-lanes}
use Rattle.id_digits.proofs.reading.packed.Goals as goal

pub returns : goal.returns
unfolding packed
returns c = packed-lanes c.args.front c.args.back c.fits-front.0 c.fits-back.0
